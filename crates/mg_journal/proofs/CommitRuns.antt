-- Lemmas on what a stop may leave over the phases of a commit.
use Rattle.mg_disk.specs.{BecomesLemmas.{becomes-then, becomes-to}, Disk.{Image, SameBut, SeenBut, only_place}, Reads.Becomes, Runs.leaves_then}
use Rattle.mg_disk.specs.{Runs.{leaves_wider, leaves_yet, only_image}, Stops.{Leaves, NothingPending}, declared.disk.Disk.Ghosts}
use Rattle.mg_journal.{proofs.CommitSteps.{bodies_may, either_then, gate_may, new_then}, specs.Contents.{InJournal, NewContents, SameContents}}
use Rattle.{mg_journal.specs.{Phases.{HoldsWrites, IsBehind, IsNext}, Standing.OldOrNew}, mg_model.specs.Layout.{body_limit, segment_count}}
use Rattle.{mg_model.specs.{Layout.segment_gate, Replay.{homes_fit, is_open, replay, written}}, std.proofs.Common.{refl, sym, subst, inl, arith}}
use Rattle.std.specs.{Option.ForSome, Prelude.{◌≡◌, ◌≤◌, ◌<◌, ℕ, true, false, List, [], ◌∷◌, length, Option, Some, None, option_map}}

pub some_same : (x y : Image) → Some x ≡ Some y → x ≡ y
some_same x y is = cc

pub empty_from : (writes : List (ℕ × List ℕ)) → length writes ≡ 0 → writes ≡ []
empty_from [] none = refl
empty_from (w ∷ writes) none = absurd (omega arith)

module _ {D : Type 0} (facts : Ghosts D) (total n : ℕ) (writes : List (ℕ × List ℕ)) (a : Image) (place : n < segment_count) (shut : (s : ℕ) → n ≤ s → s < segment_count → is_open a s ≡ false) where
  pub after_bodies : (d0 d1 : D) → Leaves facts d0 d1 (SameBut (IsBehind n) a) → Leaves facts d0 d1 (OldOrNew total writes a)
  after_bodies d0 d1 run = leaves_wider facts d0 d1 (SameBut (IsBehind n) a) (OldOrNew total writes a) run (λ c same. bodies_may total n writes a place shut c same)

  pub after_gate : (fit : homes_fit total writes ≡ true) (few : length writes ≤ body_limit) (b : Image) (holds : HoldsWrites n writes a b) (at : ℕ) → at ≡ segment_gate n
      → (d0 d1 d2 : D) → Leaves facts d0 d1 (SameBut (IsBehind n) a) → Leaves facts d1 d2 (SameBut (only_place at) b) → Leaves facts d0 d2 (OldOrNew total writes a)
  after_gate fit few b holds at is d0 d1 d2 before run =
      leaves_then facts d0 d1 d2 (SameBut (only_place (segment_gate n)) b) (OldOrNew total writes a) (after_bodies d0 d1 before)
      (subst (λ k. Leaves facts d1 d2 (SameBut (only_place k) b)) is run) (λ c same. gate_may total n writes a place shut fit few b holds c same)

same_all : (P : ℕ → Type 0) (told : Option Image) → SeenBut P told told
same_all P None = tt
same_all P (Some a) = record { count = refl; others = λ k out. refl }

pub same_itself : (total : ℕ) (a : Image) → SameContents total a a
same_itself total a = same_all InJournal (replay a total)

no_writes : (P : ℕ → Type 0) (told : Option Image) → SeenBut P (option_map (λ (r : Image). written r []) told) told
no_writes P None = tt
no_writes P (Some a) = record { count = refl; others = λ k out. refl }

pub new_itself : (total : ℕ) (a : Image) → NewContents total a [] a
new_itself total a = no_writes InJournal (replay a total)

-- when no call was made
pub yet_same : {D : Type 0} (facts : Ghosts D) (total : ℕ) (disk : D) (a : Image) → (facts.time disk).has_been (facts.time disk).moment → facts.seen disk ≡ Some a → NothingPending facts disk → Leaves facts disk disk (SameContents total a)
yet_same facts total disk a been told pending =
    leaves_yet facts disk (SameContents total a) been
    (λ c left. subst (SameContents total a) (sym (only_image facts disk a c (record { told = told; settled = pending }) left)) (same_itself total a))

pub yet : {D : Type 0} (facts : Ghosts D) (total : ℕ) (writes : List (ℕ × List ℕ)) (disk : D) (a : Image) → (facts.time disk).has_been (facts.time disk).moment → facts.seen disk ≡ Some a → NothingPending facts disk → Leaves facts disk disk (OldOrNew total writes a)
yet facts total writes disk a been told pending = leaves_wider facts disk disk (SameContents total a) (OldOrNew total writes a) (yet_same facts total disk a been told pending) (λ c same. inl same)

-- a segment that is written after a checkpoint, or after no call
module _ (total t : ℕ) (is : t ≡ total) (writes : List (ℕ × List ℕ)) where
  pub make_run : {D : Type 0} (facts : Ghosts D) (a : Image) (d0 d1 d2 : D) → facts.seen d0 ≡ Some a → Leaves facts d0 d1 (SameContents total a) → Becomes (SameContents total) (facts.seen d0) (facts.seen d1)
      → ForSome (facts.seen d1) (λ b. Leaves facts d1 d2 (OldOrNew t writes b)) → Leaves facts d0 d2 (OldOrNew total writes a)
  make_run facts a d0 d1 d2 told before same run =
      let b = becomes-to (SameContents total) (facts.seen d0) (facts.seen d1) a same told in
      leaves_then facts d0 d1 d2 (OldOrNew total writes b.0) (OldOrNew total writes a)
      (leaves_wider facts d0 d1 (SameContents total a) (OldOrNew total writes a) before (λ c old. inl old))
      (subst (λ n. Leaves facts d1 d2 (OldOrNew n writes b.0)) is (run b.0 b.1))
      (λ c may. either_then total writes a b.0 c b.2 may)

  pub make_done : (n : ℕ) (told mid new : Option Image) → Becomes (SameContents total) told mid → Becomes (IsNext t n writes) mid new → Becomes (λ a. NewContents total a writes) told new
  make_done n told mid new =
      becomes-then (SameContents total) (IsNext t n writes) (λ a. NewContents total a writes) told mid new
      (λ a b c at same next. new_then total writes a b c same (subst (λ m. NewContents m b writes c) is next.contents))
