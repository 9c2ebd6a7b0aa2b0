-- Bodies that are read together, and homes that are written together.
use Rattle.mg_disk.specs.{BecomesLemmas.{becomes-kept, becomes-seen, becomes-then}, Disk.{HasBlocks, Image, InRange, SameBut, SeenBut, block_at}}
use Rattle.mg_disk.specs.{Disk.no_image, PlaceLemmas.same_after, Reads.Becomes, Runs.{Tracks, quiet}, Stops.{Leaves, NothingPending, TimeGoes}}
use Rattle.{mg_disk.specs.declared.disk.Disk.Ghosts, mg_journal.{proofs.ApplySteps.{filled_more, named_place}, specs.Applied.{AreInRow, HasBodies}}}
use Rattle.mg_journal.specs.{Applied.{HasRun, filled, nth_body, nth_home}, Contents.names, Places.IsPlace, WrittenLemmas.written_elsewhere}
use Rattle.{mg_model.specs.{Layout.globals_block, Replay.written}, std.proofs.Common.{refl, sym, ap, subst, ◌∙◌, ⊎_elim, arith}}
use Rattle.std.proofs.lemmas.{Bool.{cases_lt, Decides.nat_tests}, List.{ext_get_or, get_or_past, get_or-set_other, get_or-set_same}}
use Rattle.std.proofs.lemmas.{Result.on_ok_weaker, Simd.{get_or-put_chunk_above, get_or-put_chunk_at, get_or-put_chunk_below, put_chunk_is}}
use Rattle.std.specs.{Option.ForSome, Prelude.{◌≡◌, ◌+◌, ◌-◌, ◌≤◌, ◌<◌, ℕ, zero, suc, true, All, List, [], ◌∷◌, length, option_map, slice_set, take}}
use Rattle.std.specs.{Prelude.{OnOk, Option, Some, None, Result}, Simd.Lanes.put_chunk}
use borrow.Rule.Slice.PartMut.{put_mid}

-- a part that is written into a list of blocks
module _ (low high : ℕ) (old part : Image) (ordered : low ≤ high) (within : high ≤ length old) (long : length part ≡ high - low) where
  abbrev put : Image
  put = put_mid low (high - low) old part

  is_chunk : put ≡ put_chunk low old part
  is_chunk = grind (arith, put_chunk_is)

  before : (k : ℕ) → k < low → block_at put k ≡ block_at old k
  before k less = ap (λ l. block_at l k) is_chunk ∙ get_or-put_chunk_below low old part k [] less

  among : (j : ℕ) → j < length part → block_at put (low + j) ≡ block_at part j
  among j less = ap (λ l. block_at l (low + j)) is_chunk ∙ get_or-put_chunk_at low old part j [] less (omega arith)

  behind : (k : ℕ) → high ≤ k → block_at put k ≡ block_at old k
  behind k more = ap (λ l. block_at l k) is_chunk ∙ get_or-put_chunk_above low old part k [] (omega arith)

  has : (image : Image) → HasBlocks low part image → (k : ℕ) → low ≤ k → k < high → block_at put k ≡ block_at image k
  has image read k from to =
      let at : low + (k - low) ≡ k = omega arith in
      subst (λ i. block_at put i ≡ block_at image i) at (among (k - low) (omega arith) ∙ sym (read (k - low) (omega arith)))

  -- bodies that are read there
  pub part_read : (places : List (ℕ × ℕ)) (from to : ℕ) (image : Image)
      → ((k : ℕ) → k < length places → from ≤ nth_body places k → nth_body places k < to → (low ≤ nth_body places k) × (nth_body places k < high))
      → HasBlocks low part image → HasBodies from places old image → HasBodies to places put image
  part_read places from to image all read so_far k inside less =
      ⊎_elim (λ below. before body below ∙ so_far k inside (early (λ l. let h = l.0 in omega arith)))
      (λ above. ⊎_elim (λ under. has image read body above under) (λ over. behind body over ∙ so_far k inside (early (λ l. let h = l.1 in omega arith))) (cases_lt body high)) (cases_lt body low)
    where
      body : ℕ
      body = nth_body places k

      early : ((low ≤ body) × (body < high) → ⊥) → body < from
      early out = ⊎_elim (λ under. under) (λ over. absurd (out (all k inside over less))) (cases_lt body from)

-- homes that are written together
module _ (places : List (ℕ × ℕ)) (a : Image) (first : ℕ) where
  abbrev so_far : ℕ → Image
  so_far n = written a (filled a (take (first + n) places))

  abbrev home : ℕ
  home = nth_home places first

  step : (j : ℕ) → first + j < length places → so_far (j + 1) ≡ slice_set (so_far j) (nth_home places (first + j)) (block_at a (nth_body places (first + j)))
  step j inside =
      let more : first + (j + 1) ≡ first + j + 1 = omega arith in
      ap (λ n. written a (filled a (take n places))) more ∙ filled_more a places (first + j) inside

  count_is : (n : ℕ) → length (so_far n) ≡ length a
  count_is n = (written_elsewhere (filled a (take (first + n) places)) a).count

  module _ (new : Image) (long : length new ≡ length a) where
    -- after the first n of them: those are as in the new image, and all else is as it was
    record Written (n : ℕ) : Type 0 where
      here : (i : ℕ) → home ≤ i → i < home + n → block_at (so_far n) i ≡ block_at new i
      below : (i : ℕ) → i < home → block_at (so_far n) i ≡ block_at (so_far 0) i
      above : (i : ℕ) → home + n ≤ i → block_at (so_far n) i ≡ block_at (so_far 0) i

    one_more : (n : ℕ) → first + n < length places → nth_home places (first + n) ≡ home + n → block_at new (home + n) ≡ block_at a (nth_body places (first + n)) → Written n → Written (n + 1)
    one_more n inside row has w = record {
      here = λ i low high.
          ⊎_elim (λ less. other i (omega arith) ∙ w.here i low less)
          (λ more. let last : home + n ≡ i = omega arith in subst (λ k. block_at (so_far (n + 1)) k ≡ block_at new k) last at) (cases_lt i (home + n));
      below = λ i low. other i (omega arith) ∙ w.below i low;
      above = λ i high. other i (omega arith) ∙ w.above i (omega arith);
    }
      where
        set_is : so_far (n + 1) ≡ slice_set (so_far n) (home + n) (block_at new (home + n))
        set_is = step n inside ∙ ap (λ h. slice_set (so_far n) h (block_at a (nth_body places (first + n)))) row ∙ ap (slice_set (so_far n) (home + n)) (sym has)

        other : (i : ℕ) → (i ≡ home + n → ⊥) → block_at (so_far (n + 1)) i ≡ block_at (so_far n) i
        other i apart = ap (λ l. block_at l i) set_is ∙ get_or-set_other (so_far n) (home + n) i (block_at new (home + n)) [] apart

        at : block_at (so_far (n + 1)) (home + n) ≡ block_at new (home + n)
        at = grind (arith, nat_tests, set_is, get_or-set_same, count_is, get_or_past)

    all_of : (n : ℕ) → first + n ≤ length places → AreInRow places first n → ((j : ℕ) → j < n → block_at new (home + j) ≡ block_at a (nth_body places (first + j))) → Written n
    all_of zero inside row has = record { here = λ i low high. absurd (omega arith); below = λ i low. refl; above = λ i high. refl }
    all_of (suc n) inside row has =
        let next : n + 1 ≡ suc n = omega arith in
        subst Written next (one_more n (omega arith) (row n (omega arith)) (has n (omega arith)) (all_of n (omega arith) (λ j less. row j (omega arith)) (λ j less. has j (omega arith))))

  -- they are, if the new image has the run and is otherwise as it was
  row_written : (n : ℕ) (memory run new : Image) → first + n ≤ length places → AreInRow places first n → HasRun places first n memory run → length run ≡ n
      → HasBodies globals_block places memory a → ((k : ℕ) → k < length places → nth_body places k < globals_block)
      → SameBut (InRange home n) (so_far 0) new → HasBlocks home run new → new ≡ so_far n
  row_written n memory run new inside row gathered long bodies low same has =
      ext_get_or [] new (so_far n) (count ∙ sym (count_is n))
      (λ i under. ⊎_elim (λ less. same.others i (λ at. let f = at.from in omega arith) ∙ sym (done.below i less))
      (λ from. ⊎_elim (λ less. sym (done.here i from less)) (λ past. same.others i (λ at. let t = at.before in omega arith) ∙ sym (done.above i past)) (cases_lt i (home + n))) (cases_lt i home))
    where
      count : length new ≡ length a
      count = same.count ∙ count_is 0

      done : Written new count n
      done =
          all_of new count n inside row
          (λ j less.
          has j (omega arith)
          ∙ gathered j less
          ∙ bodies (first + j) (omega arith) (low (first + j) (omega arith)))

-- each place of a row is a home
pub named_row : (a : Image) (places : List (ℕ × ℕ)) (first n : ℕ) (row : Image) → first + n ≤ length places → AreInRow places first n → length row ≡ n → (k : ℕ) → InRange (nth_home places first) (length row) k → names (filled a places) k ≡ true
named_row a places first n row inside in_row long k at =
    let low = at.from in
    let high = at.before in
    let j : ℕ = k - nth_home places first in
    let is : nth_home places (first + j) ≡ k = omega (arith, in_row j (omega arith)) in
    subst (λ i. names (filled a places) i ≡ true) is (named_place a places (first + j) (omega arith))

-- a row ends on the disk
pub row_fits : (total : ℕ) (places : List (ℕ × ℕ)) (first n : ℕ) (row : Image) → All (IsPlace total) places → 0 < n → first + n ≤ length places → AreInRow places first n → length row ≡ n → nth_home places first + length row ≤ total
row_fits total places first n row all some inside in_row long = grind (arith)

-- a row more is written
pub row_applied : (n : ℕ) (places : List (ℕ × ℕ)) (first count : ℕ) (memory row : Image) (told mid new : Option Image) → All (IsPlace n) places → first + count ≤ length places → AreInRow places first count
    → HasRun places first count memory row → length row ≡ count → ForSome told (HasBodies globals_block places memory)
    → mid ≡ option_map (λ a. written a (filled a (take first places))) told → SeenBut (InRange (nth_home places first) (length row)) mid new → ForSome new (HasBlocks (nth_home places first) row)
    → new ≡ option_map (λ a. written a (filled a (take (first + count) places))) told
row_applied n places first count memory row None mid None all inside in_row gathered long bodies so_far same has = refl
row_applied n places first count memory row None mid (Some b) all inside in_row gathered long bodies so_far same has = grind (arith)
row_applied n places first count memory row (Some a) mid None all inside in_row gathered long bodies so_far same has = grind (arith)
row_applied n places first count memory row (Some a) mid (Some b) all inside in_row gathered long bodies so_far same has =
    ap (λ x. Some x)
    (row_written places a first count memory row b inside in_row gathered long (bodies a refl) (λ k less. (all k (0, 0) less).body) but (has b refl))
  where
    but : SameBut (InRange (nth_home places first) count) (written a (filled a (take (first + 0) places))) b
    but = grind (arith)

-- when there are no bodies
pub none_written : (places : List (ℕ × ℕ)) (told : Option Image) → length places ≡ 0 → told ≡ option_map (λ a. written a (filled a places)) told
none_written [] None none = refl
none_written [] (Some a) none = refl
none_written (place ∷ places) told none = absurd (omega arith)

-- What reads give after one more call, whatever it answers: still the image as it was told first but at these places.
pub torn_more : (P : Image → ℕ → Type 0) (these : ℕ → Type 0) (told mid new : Option Image) → ((a : Image) (k : ℕ) → these k → P a k) → Becomes (λ a. SameBut (P a) a) told mid → SeenBut these mid new → Becomes (λ a. SameBut (P a) a) told new
torn_more P these told mid new among so_far one =
    becomes-then (λ a. SameBut (P a) a) (SameBut these) (λ a. SameBut (P a) a) told mid new (λ a b c is first then. same_after (P a) these (P a) a b c (λ k at. at) (among a) first then) so_far (becomes-seen these mid new one)

-- A sync after a run of writes: what a stop left, what reads give, and what is pending.
pub homes_synced : {D : Type 0} (facts : Ghosts D) (old mid new : D) (P : Image → ℕ → Type 0)
    → (NothingPending facts old → ForSome (facts.seen old) (λ image. Tracks facts old mid (SameBut (P image) image) (SameBut (P image) image))) → TimeGoes facts mid new no_image
    → NothingPending facts old → ForSome (facts.seen old) (λ image. Leaves facts old new (SameBut (P image) image))
homes_synced facts old mid new P run call pending image told = (quiet facts old mid new (SameBut (P image) image) (SameBut (P image) image) (run pending image told) call).leaves

pub kept_synced : (R : Image → Image → Type 0) (told mid new : Option Image) → Becomes R told mid → new ≡ mid → Becomes R told new
kept_synced R told mid new so_far same = becomes-kept R told mid new same so_far

pub settled_synced : {T E : Type 0} (result : Result T E) (P Q : Type 0) → OnOk result Q → OnOk result (P → Q)
settled_synced result P Q durable = on_ok_weaker result (λ q p. q) durable
