-- One call more of a run of calls, one block for each call.
use Rattle.mg_disk.{proofs.BlockByBlock.{ArePutSoFar, AreReadSoFar}, specs.{Calls.{IsRead, IsReadRun, IsWrite, IsWriteRun}, Disk.{Image, InRange}}}
use Rattle.mg_disk.specs.{Disk.{SeenBut, TornAt, block_at, no_image, only_place}, PlaceLemmas.{HasFirst, same_after, same_set}, Runs.time_then}
use Rattle.{mg_disk.specs.{Stops.TimeGoes, declared.disk.Disk.Ghosts}, mg_faults.specs.Faults.{count_then, then_rose}, std.proofs.Common.arith}
use Rattle.std.proofs.{Common.{refl, subst, sym, ◌∙◌, ⊎_elim}, lemmas.{Bool.{cases_lt, Decides.nat_tests}, List.{get_or-set_other, get_or-set_same}}}
use Rattle.std.{proofs.lemmas.List.length-set, specs.{Option.ForSome, Prelude.{◌≡◌, ◌+◌, ◌<◌, ◌≤◌, ℕ, zero, suc, List, [], ◌∷◌, get_or, length}}}
use Rattle.std.specs.Prelude.{option_map, slice_set, Option, Some, None, Ok, Err}

-- what reads give differs at some places, and then at others
but_then : (p q r : ℕ → Type 0) (a b c : Option Image) → ((k : ℕ) → p k → r k) → ((k : ℕ) → q k → r k) → SeenBut p a b → SeenBut q b c → SeenBut r a c
but_then p q r (Some x) (Some y) (Some z) left right first then = same_after p q r x y z left right first then
but_then p q r None None None left right first then = tt
but_then p q r None None (Some z) left right first then = absurd then
but_then p q r (Some x) (Some y) None left right first then = absurd then
but_then p q r (Some x) None c left right first then = absurd first
but_then p q r None (Some y) c left right first then = absurd first

set_but : (i : ℕ) (block : List ℕ) (a b : Option Image) → b ≡ option_map (λ image. slice_set image i block) a → SeenBut (only_place i) a b
set_but i block (Some x) b is = subst (SeenBut (only_place i) (Some x)) (sym is) (same_set x i block)
set_but i block None b is = subst (SeenBut (only_place i) None) (sym is) tt

some_inj : (x y : Image) → Some x ≡ Some y → x ≡ y
some_inj x y is = cc

module _ (first n i : ℕ) (from : Image) (block : List ℕ) (at : i ≡ first + n) (is_it : block ≡ block_at from n) where
  set_has : (y : Image) → i < length y → HasFirst first from n y → HasFirst first from (n + 1) (slice_set y i block)
  set_has y long so_far k low = grind (arith, nat_tests, get_or-set_other, get_or-set_same)

  put_seen : (a b : Option Image) → ForSome a (λ image. i < length image) → ForSome a (HasFirst first from n) → b ≡ option_map (λ image. slice_set image i block) a → ForSome b (HasFirst first from (n + 1))
  put_seen (Some y) b long so_far put z told = subst (HasFirst first from (n + 1)) (some_inj (slice_set y i block) z (sym put ∙ told)) (set_has y (long y refl) (so_far y refl))
  put_seen None b long so_far put z told = absurd (let none : ◌≡◌ {A = Option Image} None (Some z) = sym put ∙ told in cc)

module _ {D : Type 0} (facts : Ghosts D) (first n : ℕ) (old mid new : D) where
  -- a read
  module _ (room i : ℕ) (out : Image) (block : List ℕ) (so_far : AreReadSoFar facts first out n room old mid) where
    pub read_more : {T E : Type 0} (x : T) → i ≡ first + n → n < room → IsRead {T = T} {E = E} facts mid new i block (Ok x) → AreReadSoFar facts first (slice_set out n block) (n + 1) room old new
    read_more x at inside call = record {
      read = λ image told k low. ⊎_elim (λ less. so_far.read image told k less ∙ sym (get_or-set_other out n k block [] (λ e. omega arith))) (λ more. here image told k low more) (cases_lt k n);
      length_is = length-set out n block ∙ so_far.length_is;
      seen = call.seen ∙ so_far.seen;
      stops = time_then facts old mid new no_image no_image so_far.stops call.rules.stops (λ c none. none);
      blocks = call.rules.blocks ∙ so_far.blocks;
      tells = call.rules.tells ∙ so_far.tells;
      count = count_then _ _ _ _ _ _ so_far.count call.rules.count;
    }
      where
        here : (image : Image) → facts.seen old ≡ Some image → (k : ℕ) → k < n + 1 → n ≤ k → block_at image (first + k) ≡ block_at (slice_set out n block) k
        here image told k low more = grind (arith, get_or-set_same)

    pub read_failed : {S T E F : Type 0} (e : E) (f : F) → IsRead {T = T} {E = E} facts mid new i block (Err e) → IsReadRun {T = S} {E = F} facts old new first room (slice_set out n block) (Err f)
    read_failed e f call = record {
      read = tt;
      room = length-set out n block ∙ so_far.length_is;
      seen = call.seen ∙ so_far.seen;
      rules = record {
        stops = time_then facts old mid new no_image no_image so_far.stops call.rules.stops (λ c none. none);
        blocks = call.rules.blocks ∙ so_far.blocks;
        tells = call.rules.tells ∙ so_far.tells;
        count = count_then _ _ _ _ _ _ so_far.count call.rules.count;
        cause = then_rose _ _ _ _ _ _ so_far.count call.rules.cause;
      };
    }

  -- a write
  module _ (i : ℕ) (from : Image) (block : List ℕ) (at : i ≡ first + n) (so_far : ArePutSoFar facts first from n old mid) where
    module _ (m : ℕ) (few : n < m) where
      among : (k : ℕ) → InRange first n k → InRange first m k
      among k in_range = record { from = in_range.from; before = let before = in_range.before in omega arith }

      the_last : (k : ℕ) → only_place i k → InRange first m k
      the_last k is = record { from = omega arith; before = omega arith }

      torn : (c : Image) → TornAt (only_place i) ((facts.time mid).left_since (facts.time mid).moment) c → TornAt (InRange first m) ((facts.time old).left_since (facts.time old).moment) c
      torn c t = grind (arith, nat_tests, same_after, the_last, among)

      goes : TimeGoes facts mid new (TornAt (only_place i) ((facts.time mid).left_since (facts.time mid).moment)) → TimeGoes facts old new (TornAt (InRange first m) ((facts.time old).left_since (facts.time old).moment))
      goes call = grind (arith, same_after, among, torn)

    pub put_more : {T E : Type 0} (x : T) → block ≡ block_at from n → ForSome (facts.seen mid) (λ image. i < length image) → IsWrite {T = T} {E = E} facts mid new i block (Ok x) → ArePutSoFar facts first from (n + 1) old new
    put_more x is_it long call = record {
      put = put_seen first n i from block at is_it (facts.seen mid) (facts.seen new) long so_far.put call.written;
      seen = but_then (InRange first n) (only_place i) (InRange first (n + 1)) (facts.seen old) (facts.seen mid) (facts.seen new) (among (n + 1) (omega arith)) (the_last (n + 1) (omega arith)) so_far.seen
          (set_but i block (facts.seen mid) (facts.seen new) call.written);
      stops = goes (n + 1) (omega arith) call.rules.stops;
      blocks = call.rules.blocks ∙ so_far.blocks;
      tells = call.rules.tells ∙ so_far.tells;
      count = count_then _ _ _ _ _ _ so_far.count call.rules.count;
    }

    pub put_failed : {S T E F : Type 0} (e : E) (f : F) → n < length from → IsWrite {T = T} {E = E} facts mid new i block (Err e) → IsWriteRun {T = S} {E = F} facts old new first from (Err f)
    put_failed e f few call = record {
      written = tt;
      unknown = but_then (InRange first n) (only_place i) (InRange first (length from)) (facts.seen old) (facts.seen mid) (facts.seen new) (among (length from) few) (the_last (length from) few) so_far.seen call.unknown;
      rules = record {
        stops = goes (length from) few call.rules.stops;
        blocks = call.rules.blocks ∙ so_far.blocks;
        tells = call.rules.tells ∙ so_far.tells;
        count = count_then _ _ _ _ _ _ so_far.count call.rules.count;
        cause = then_rose _ _ _ _ _ _ so_far.count call.rules.cause;
      };
    }

-- all of them were written
pub all_put : {D T E : Type 0} (facts : Ghosts D) (first : ℕ) (from : Image) (old new : D) (x : T) → ArePutSoFar facts first from (length from) old new → IsWriteRun {T = T} {E = E} facts old new first from (Ok x)
all_put facts first from old new x so_far = record {
  written = so_far.put;
  unknown = so_far.seen;
  rules = record { stops = so_far.stops; blocks = so_far.blocks; tells = so_far.tells; count = so_far.count; cause = tt };
}

-- an item of a list, whatever value the places past its end have
pub same_item : (xs : Image) (k : ℕ) (d : List ℕ) → k < length xs → get_or xs k d ≡ block_at xs k
same_item [] k d inside = absurd (omega arith)
same_item (x ∷ xs) zero d inside = refl
same_item (x ∷ xs) (suc k) d inside = same_item xs k d (omega arith)
