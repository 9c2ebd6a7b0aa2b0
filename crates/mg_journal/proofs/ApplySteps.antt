-- Lemmas on bodies that are written to their homes.
use Rattle.{mg_disk.specs.Disk.{Image, block_at}, mg_journal.specs.{Applied.{filled, nth_body, nth_home}, Contents.names, Places.places_from}}
use Rattle.{mg_journal.specs.{Places.places_since, WrittenLemmas.written-append}, mg_model.specs.Abbreviations.{writes_from, writes_since}}
use Rattle.{mg_model.specs.{Layout.segment_body, Replay.{body_count, home_of, written}}, std.proofs.Common.{refl, ap, ◌∙◌, arith}}
use Rattle.std.{proofs.lemmas.{Bool.{eq-eqb, or_left, or_right}, List.{map-append, take_more}}, specs.Prelude.{◌≡◌, ◌+◌, ◌<◌, ◌==◌, ℕ, Bool, zero}}
use Rattle.std.specs.Prelude.{suc, true, false, List, [], ◌∷◌, if◌then◌else◌, length, slice_index_or, slice_set, take}

pub named_place : (a : Image) (places : List (ℕ × ℕ)) (k : ℕ) → k < length places → names (filled a places) (nth_home places k) ≡ true
named_place a [] k below = absurd (omega arith)
named_place a (place ∷ places) zero below = or_left (place.0 == place.0) (names (filled a places) place.0) (eq-eqb place.0 place.0 refl)
named_place a (place ∷ places) (suc k) below = grind (arith, or_right, named_place a places k (omega arith))

pub filled_more : (a : Image) (places : List (ℕ × ℕ)) (k : ℕ) → k < length places → written a (filled a (take (k + 1) places)) ≡ slice_set (written a (filled a (take k places))) (nth_home places k) (block_at a (nth_body places k))
filled_more a places k below =
    let place = slice_index_or places k (0, 0) in
    ap (λ p. written a (filled a p)) (take_more places k (0, 0) below)
    ∙ ap (written a) (map-append (λ (p : ℕ × ℕ). (p.0, block_at a p.1)) (take k places) (place ∷ []))
    ∙ written-append (filled a (take k places)) ((place.0, block_at a place.1) ∷ []) a

-- the places of the open segments have what a replay writes
filled_from : (a : Image) (s j n : ℕ) → filled a (places_from a s j n) ≡ writes_from a s j n
filled_from a s j zero = refl
filled_from a s j (suc n) = ap (λ w. (home_of a s j, block_at a (segment_body s j)) ∷ w) (filled_from a s (j + 1) n)

filled_if : (a : Image) (s : ℕ) (v : Bool) → filled a (if v then places_from a s 0 (body_count a s) else []) ≡ (if v then writes_from a s 0 (body_count a s) else [])
filled_if a s true = filled_from a s 0 (body_count a s)
filled_if a s false = refl

pub filled_since : (a : Image) (from n : ℕ) → filled a (places_since a from n) ≡ writes_since a from n
filled_since a from zero = refl
filled_since a from (suc n) = grind (arith, map-append, filled_if, filled_since a (from + 1) n)
