-- A run of calls of a `MemDisk`, call by call.
use Rattle.mg_disk.{proofs.BlockByBlock.ArePutSoFar, specs.{Blocks.gates_block, Disk.{Image, InRange, SameBut, block_at, only_place}, Held.time_of}}
use Rattle.mg_disk.specs.Memory.{FailsAt, FailsFirst, IsCutAt, Numbered, NumberedRun, content_of, counts_of, fails_of, more_reads, more_writes}
use Rattle.mg_disk.specs.{Memory.{calls_made, one_read, one_write, room_of}, PlaceLemmas.{same_after, same_as, same_set}, declared.disk.Disk.Ghosts}
use Rattle.{mg_disk.specs.declared.memory.{Counts.Counts, MemDisk.MemDisk}, mg_faults.specs.Faults.is_last, std.proofs.Common.{ap, arith, inl, inr}}
use Rattle.std.{proofs.{Common.{refl, subst, sym, ◌∙◌, ⊎_elim}, lemmas.{Bool.{cases_lt, Decides.nat_tests}, List.get_or-set_same}}, specs.Prelude.◌≡◌}
use Rattle.std.specs.{Prelude.{◌+◌, ◌<◌, ◌≤◌, ℕ, Contains, Ok, Err, IsErr, Some, length, slice_set, true}, Vec.vec_len}

-- one call of a kind more
pub one_more_read : (a b : Counts) (n : ℕ) → b ≡ more_reads a n → one_read b ≡ more_reads a (n + 1)
one_more_read a b n is = grind (arith)

pub one_more_write : (a b : Counts) (n : ℕ) → b ≡ more_writes a n → one_write b ≡ more_writes a (n + 1)
one_more_write a b n is = grind (arith)

-- what a `MemDisk` shows, as the trait's members
abbrev pub told_by : Ghosts MemDisk
told_by = record {
  block_count = λ disk. vec_len disk.content;
  seen = λ disk. Some disk.content.items;
  tells_stops = λ disk. true;
  time = λ disk. time_of disk.first.items disk.events.items;
  faults = λ disk. disk.count;
  is_spent = λ disk. is_last disk.count;
}

abbrev pub sum_of : Counts → ℕ
sum_of counts = counts.reads + counts.writes + counts.syncs

no_error : (T E : Type 0) (x : T) → IsErr {T = T} {E = E} (Ok x) → ⊥
no_error T E x is = cc

-- n calls passed
pub record Passed (made : ℕ → Counts) (n : ℕ) (old new : MemDisk) : Type 0 where
  pub recorded : counts_of new ≡ made n
  pub none : (j : ℕ) → j < n → FailsAt old (calls_made old + j) → ⊥
  pub same_room : room_of new ≡ room_of old
  pub same_fails : fails_of new ≡ fails_of old

module _ (made : ℕ → Counts) (old mid : MemDisk) (n : ℕ) (counted : sum_of (made n) ≡ calls_made old + n) (passed : Passed made n old mid) where
  number : calls_made mid ≡ calls_made old + n
  number = ap sum_of passed.recorded ∙ counted

  as_old : FailsAt mid (calls_made mid) → FailsAt old (calls_made old + n)
  as_old h =
      let is = number in
      let room = passed.same_room in
      ⊎_elim (λ past. inl (omega arith)) (λ among. inr (subst (Contains (fails_of old)) is (subst (λ numbers. Contains numbers (calls_made mid)) passed.same_fails among))) h

  as_mid : FailsAt old (calls_made old + n) → FailsAt mid (calls_made mid)
  as_mid h =
      let is = number in
      let room = passed.same_room in
      ⊎_elim (λ past. inl (omega arith)) (λ among. inr (subst (λ numbers. Contains numbers (calls_made mid)) (sym passed.same_fails) (subst (Contains (fails_of old)) (sym is) among))) h

  -- one more call that passes
  pub passed_more : {T E : Type 0} (new : MemDisk) (x : T) (one : Counts) → one ≡ made (n + 1) → Numbered {T = T} {E = E} mid new one (Ok x) → Passed made (n + 1) old new
  passed_more {T = T} {E = E} new x one is call = record {
    recorded = ⊎_elim (λ room. call.recorded room ∙ is) (λ past. absurd (no_error T E x (call.exact.1 (inl past)))) (cases_lt (calls_made mid) (room_of mid));
    none = λ j low fails. ⊎_elim (λ before. passed.none j before fails) (λ here. no_error T E x (call.exact.1 (as_mid (let P : ℕ → Type 0 = λ i. FailsAt old (calls_made old + i) in subst P (omega arith) fails)))) (cases_lt j n);
    same_room = call.same_room ∙ passed.same_room;
    same_fails = call.same_fails ∙ passed.same_fails;
  }

  -- one call that fails
  pub failed_first : {T E : Type 0} (new : MemDisk) (e : E) (calls : ℕ) (one : Counts) → n < calls → one ≡ made (n + 1) → Numbered {T = T} {E = E} mid new one (Err e) → FailsFirst old new made calls n
  failed_first new e calls one few next call = record {
    one = few;
    fails = as_old (call.exact.0 refl);
    passed = passed.none;
    recorded = λ room. call.recorded (let is = number in let same = passed.same_room in omega arith) ∙ next;
    past = λ past. ap (λ (disk : MemDisk). counts_of disk) (call.past (let is = number in let same = passed.same_room in omega arith)) ∙ passed.recorded;
  }

  pub fails_first : {S T E F : Type 0} (new : MemDisk) (e : E) (f : F) (calls : ℕ) (one : Counts) → n < calls → one ≡ made (n + 1) → Numbered {T = T} {E = E} mid new one (Err e) → NumberedRun {T = S} {E = F} calls old new made (Err f)
  fails_first new e f calls one few next call = record {
    all = tt;
    first = (n, failed_first new e calls one few next call);
    same_room = call.same_room ∙ passed.same_room;
    same_fails = call.same_fails ∙ passed.same_fails;
  }

pub all_passed : {T E : Type 0} (made : ℕ → Counts) (old new : MemDisk) (x : T) (calls : ℕ) → Passed made calls old new → NumberedRun {T = T} {E = E} calls old new made (Ok x)
all_passed made old new x calls passed = record { all = (passed.recorded, passed.none); first = tt; same_room = passed.same_room; same_fails = passed.same_fails }

-- The content after a run of writes that ended with block k: the blocks before k were written, and the call for block k
-- failed.
module _ (old mid new : MemDisk) (first k : ℕ) (from : Image) (so_far : ArePutSoFar told_by first from k old mid) (passed : Passed (more_writes (counts_of old)) k old mid) where
  same_number : calls_made mid ≡ calls_made old + k
  same_number = number (more_writes (counts_of old)) old mid k (omega arith) passed

  -- the call changed at most its own block
  cut_by : (at_k : SameBut (only_place (first + k)) (content_of mid) (content_of new))
      → (calls_made mid < room_of mid → block_at (content_of new) (first + k) ≡ gates_block)
      → (room_of mid ≤ calls_made mid → content_of new ≡ content_of mid) → IsCutAt old new first from k
  cut_by at_k gates past = record {
    before = λ j low. at_k.others (first + j) (λ is. omega arith) ∙ so_far.put (content_of mid) refl j low;
    gates = λ room. gates (let is = same_number in let same = passed.same_room in omega arith);
    past = λ out. ap (λ image. block_at image (first + k)) (past (let is = same_number in let same = passed.same_room in omega arith))
        ∙ so_far.seen.others (first + k) (λ inside. let before = inside.before in omega arith);
    elsewhere = same_after (InRange first k) (only_place (first + k)) (InRange first (k + 1)) (content_of old) (content_of mid) (content_of new)
        (λ j inside. record { from = inside.from; before = let before = inside.before in omega arith }) (λ j is. record { from = omega arith; before = omega arith }) so_far.seen at_k;
  }

  pub cut_at : {T E : Type 0} (one : Counts) (e : E) → first + k < length (content_of mid) → Numbered {T = T} {E = E} mid new one (Err e)
      → (calls_made mid < room_of mid → content_of new ≡ slice_set (content_of mid) (first + k) gates_block) → IsCutAt old new first from k
  cut_at one e inside call gates = grind (arith, nat_tests, cut_by, get_or-set_same, same_set, same_as)
