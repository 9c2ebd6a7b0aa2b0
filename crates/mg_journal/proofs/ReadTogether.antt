-- How blocks that were read together become those of the contents, one after the other.
use Rattle.mg_disk.specs.{Disk.{Image, block_at}, PlaceLemmas.{HasFirst, same_or_not}, Reads.OnlyReads, Runs.nothing_then, Stops.CountGoes}
use Rattle.{mg_disk.specs.{Stops.WritesNothing, declared.disk.Disk.Ghosts}, mg_faults.specs.Faults.count_then, mg_model.specs.Replay.replay}
use Rattle.std.{proofs.{Common.{sym, subst, ◌∙◌, arith, ⊎_elim}, lemmas.List.{length-set, get_or-set_same, get_or-set_other}}, specs.Option.ForSome}
use Rattle.std.specs.Prelude.{◌≡◌, ◌≢◌, ◌+◌, ◌<◌, ◌≤◌, ℕ, [], List, Result, length, slice_set}

-- the blocks from the n-th on are those at their homes
abbrev pub HasRest : ℕ → Image → ℕ → Image → Type 0
HasRest first blocks n image = (k : ℕ) → n ≤ k → k < length blocks → block_at image (first + k) ≡ block_at blocks k

-- what lasts while they are gone through
pub record AreNewest {D : Type 0} (facts : Ghosts D) (total first : ℕ) (blocks : Image) (n count : ℕ) (old new : D) : Type 0 where
  pub newest : ForSome (facts.seen old) (λ image. ForSome (replay image total) (HasFirst first blocks n))
  pub homes : ForSome (facts.seen old) (HasRest first blocks n)
  pub same_count : length blocks ≡ count
  pub writes : WritesNothing facts old new
  pub goes_on : CountGoes facts old new
  pub room : facts.block_count new ≡ facts.block_count old

module _ (first : ℕ) (blocks : Image) (n : ℕ) (block : List ℕ) where
  first_more : (r : Image) → n < length blocks → block ≡ block_at r (first + n) → HasFirst first blocks n r → HasFirst first (slice_set blocks n block) (n + 1) r
  first_more r inside is so_far k below = ⊎_elim here there (same_or_not k n)
    where
      here : k ≡ n → block_at r (first + k) ≡ block_at (slice_set blocks n block) k
      here at =
          let P : ℕ → Type 0 = λ j. block_at r (first + j) ≡ block_at (slice_set blocks n block) j in
          subst P (sym at) (sym (get_or-set_same blocks n block [] inside ∙ is))

      there : k ≢ n → block_at r (first + k) ≡ block_at (slice_set blocks n block) k
      there not = so_far k (omega (arith, below, not)) ∙ sym (get_or-set_other blocks n k block [] not)

  rest_more : (image : Image) → HasRest first blocks n image → HasRest first (slice_set blocks n block) (n + 1) image
  rest_more image rest k from below =
      let long = length-set blocks n block in
      rest k (omega (arith, from)) (omega (arith, below, long)) ∙ sym (get_or-set_other blocks n k block [] (λ at. omega (arith, from, at)))

-- one block more
pub newest_more : {D T E : Type 0} (facts : Ghosts D) (total first : ℕ) (blocks : Image) (n count : ℕ) (old mid new : D) (block : List ℕ) (result : Result T E) → AreNewest facts total first blocks n count old mid → n < length blocks
    → ForSome (facts.seen mid) (λ image. ForSome (replay image total) (λ r. block ≡ block_at r (first + n))) → OnlyReads facts mid new result → AreNewest facts total first (slice_set blocks n block) (n + 1) count old new
newest_more facts total first blocks n count old mid new block result so_far inside is reads = record {
  newest = λ image told r at. first_more first blocks n block r inside (is image (so_far.writes.same ∙ told) r at) (so_far.newest image told r at);
  homes = λ image told. rest_more first blocks n block image (so_far.homes image told);
  same_count = length-set blocks n block ∙ so_far.same_count;
  writes = nothing_then facts old mid new so_far.writes reads.writes;
  goes_on = count_then _ _ _ _ _ _ so_far.goes_on reads.calls.count;
  room = reads.calls.blocks ∙ so_far.room;
}
