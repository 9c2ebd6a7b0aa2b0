-- Why a block of the contents is read at its newest body.
use Rattle.{mg_disk.specs.Disk.{Image, block_at}, mg_journal.{proofs.ApplySteps.filled_since, specs.{Applied.filled, JournalLemmas.replayed-is}}}
use Rattle.{mg_journal.specs.{Looked.{Fits, Placed}, Newest.{is_for, newest_at}, Places.places_since}, mg_model.specs.Abbreviations.writes_since}
use Rattle.{mg_model.specs.{Layout.segment_count, Replay.{replay, written}}, std.proofs.Common.{refl, sym, ap, ◌∙◌, ⊎_elim, arith}}
use Rattle.std.proofs.lemmas.{Bool.{cases_Bool, eqb-true, eqb-false}, List.{get_or-set_other, get_or-set_same, length-set, reverse-append}}
use Rattle.std.{proofs.lemmas.List.Folds.find-append, specs.{Option.{option_map_or, option_or}, Prelude.{◌≡◌, ◌<◌, ◌==◌, ℕ, Bool, true, false, List}}}
use Rattle.std.specs.Prelude.{[], ◌∷◌, find, if◌then◌else◌, length, reverse, slice_set, Option, Some, None}

-- what is in block i after these writes, if x was there
abbrev pub value_at : List (ℕ × List ℕ) → ℕ → List ℕ → List ℕ
value_at [] i x = x
value_at ((home, bytes) ∷ writes) i x = value_at writes i (if home == i then bytes else x)

-- the block that holds block i, if the other block held it before
abbrev pub held_from : List (ℕ × ℕ) → ℕ → ℕ → ℕ
held_from [] i other = other
held_from ((home, body) ∷ places) i other = held_from places i (if home == i then body else other)

pub written_at : (writes : List (ℕ × List ℕ)) (a : Image) (i : ℕ) → i < length a → block_at (written a writes) i ≡ value_at writes i (block_at a i)
written_at [] a i inside = refl
written_at ((home, bytes) ∷ writes) a i inside =
    written_at writes (slice_set a home bytes) i (omega (arith, length-set a home bytes))
    ∙ ap (value_at writes i) (⊎_elim here there (cases_Bool (home == i)))
  where
    here : (home == i) ≡ true → block_at (slice_set a home bytes) i ≡ (if home == i then bytes else block_at a i)
    here is = grind (arith, eqb-true, get_or-set_same)

    there : (home == i) ≡ false → block_at (slice_set a home bytes) i ≡ (if home == i then bytes else block_at a i)
    there not = grind (arith, get_or-set_other, eqb-false)

either : (a : Image) (test : Bool) (body other : ℕ) → (if test then block_at a body else block_at a other) ≡ block_at a (if test then body else other)
either a true body other = refl
either a false body other = refl

pub value_held : (a : Image) (places : List (ℕ × ℕ)) (i other : ℕ) → value_at (filled a places) i (block_at a other) ≡ block_at a (held_from places i other)
value_held a [] i other = refl
value_held a ((home, body) ∷ places) i other = grind (arith, either, value_held a places i (if home == i then body else other))

abbrev pub found : Option (ℕ × ℕ) → ℕ → ℕ
found place other = option_map_or (λ (p : ℕ × ℕ). p.1) place other

later_first : (later : Option (ℕ × ℕ)) (home body i other : ℕ) → found later (if home == i then body else other) ≡ found (option_or later (find (is_for i) ((home, body) ∷ []))) other
later_first (Some p) home body i other = refl
later_first None home body i other = grind (arith)

pub held_is : (places : List (ℕ × ℕ)) (i other : ℕ) → held_from places i other ≡ found (find (is_for i) (reverse places)) other
held_is [] i other = refl
held_is ((home, body) ∷ places) i other =
    held_is places i (if home == i then body else other)
    ∙ later_first (find (is_for i) (reverse places)) home body i other
    ∙ ap (λ o. found o other) (sym (find-append (is_for i) (reverse places) ((home, body) ∷ [])))
    ∙ ap (λ p. found (find (is_for i) p) other) (sym (reverse-append ((home, body) ∷ []) places))

-- the newest body of a block holds what the contents have there
pub newest_reads : (view : Placed) (image r : Image) (i : ℕ) → Fits view image → i < length image → replay image view.total ≡ Some r → block_at image (newest_at view.table i) ≡ block_at r i
newest_reads view image r i fits inside is =
    ap (λ o. block_at image (found o i)) (fits.newest i)
    ∙ ap (block_at image) (sym (held_is places i i))
    ∙ sym (value_held image places i i)
    ∙ ap (λ w. value_at w i (block_at image i)) (filled_since image 0 segment_count)
    ∙ sym (written_at (writes_since image 0 segment_count) image i inside)
    ∙ ap (λ a. block_at a i) (sym (replayed-is view.total image r is))
  where
    places : List (ℕ × ℕ)
    places = places_since image 0 segment_count
