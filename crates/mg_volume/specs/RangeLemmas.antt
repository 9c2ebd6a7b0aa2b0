-- The rows of objects that a volume holds keep their ranges, since a row is read only if it does.
use Rattle.std.{proofs.{Common.{refl, ap, ◌∙◌, subst}, lemmas.Bool.{and_from, and_parts}}, specs.List.list_all}
use Rattle.std.specs.Prelude.{◌≡◌, ℕ, zero, suc, ◌+◌, ◌&&◌, Bool, true, false, List, [], ◌∷◌, if◌then◌else◌, map}
use Rattle.std.specs.Prelude.{nat_lt, Option, Some, None}
use Rattle.{mg_disk.specs.Disk.Image, mg_model.specs.{Abbreviations.{object_row_bytes, with_live}, Bytes.are_zeros}}
use Rattle.mg_model.specs.{Limits.object_limit, Spelling.{Read, object_bytes, object_fields, object_read}}
use Rattle.mg_model.specs.{State.ObjectRow, Tests.is_object_row, Volume.live_rows, Words.{and_then, same_bytes}}
use Rattle.{mg_objects.specs.Held.{by_base, into_place}, mg_volume.specs.{Held.VolumeHeld, Meaning.IsSpelledBy}}
use Rattle.mg_volume.specs.Meaning.{objects_in}
use Rattle.mg_pages.specs.Meaning as pages

and_then-some : {A B : Type 0} (o : Option A) (f : A → Option B) (b : B) → and_then o f ≡ Some b → (a : A) × (o ≡ Some a) × (f a ≡ Some b)
and_then-some None f b h = cc
and_then-some (Some a) f b h = (a, refl, h)

-- the rows with their places all keep their ranges
abbrev all_kept : List (ℕ × ObjectRow) → Bool
all_kept rows = list_all (λ (o : ℕ × ObjectRow). is_object_row o.1) rows

live-kept : (bytes : List ℕ) (row : ObjectRow) → object_read bytes ≡ Some (Some row) → is_object_row row ≡ true
live-kept bytes row h = by_zeros (are_zeros bytes) h
  where
    by_rule : (rule same : Bool) → is_object_row (object_fields bytes) ≡ rule → (if rule && same then Some (Some (object_fields bytes)) else None) ≡ Some (Some row) → is_object_row row ≡ true
    by_rule true true e h = let is : object_fields bytes ≡ row = cc in subst (λ (r : ObjectRow). is_object_row r ≡ true) is e
    by_rule true false e h = cc
    by_rule false same e h = cc

    by_zeros : (zeros : Bool) → (if zeros then Some None else (if is_object_row (object_fields bytes) && same_bytes (object_bytes (object_fields bytes)) bytes then Some (Some (object_fields bytes)) else None)) ≡ Some (Some row) → is_object_row row ≡ true
    by_zeros true h = cc
    by_zeros false h = by_rule (is_object_row (object_fields bytes)) (same_bytes (object_bytes (object_fields bytes)) bytes) refl h

rows-kept : (read : ℕ → Read ObjectRow) → ((k : ℕ) (row : ObjectRow) → read k ≡ Some (Some row) → is_object_row row ≡ true) → (i n : ℕ) (rows : List (ℕ × ObjectRow)) → live_rows read i n ≡ Some rows → all_kept rows ≡ true
rows-kept read each i zero rows h = let is : [] ≡ rows = cc in subst (λ (v : List (ℕ × ObjectRow)). all_kept v ≡ true) is refl
rows-kept read each i (suc n) rows h =
    let (first, is, more) = and_then-some (read i) (λ row. and_then (live_rows read (i + 1) n) (λ rows. Some (with_live i row rows))) rows h in
    let (rest, others, whole) = and_then-some (live_rows read (i + 1) n) (λ rest. Some (with_live i first rest)) rows more in
    let same : with_live i first rest ≡ rows = cc in
    subst (λ (v : List (ℕ × ObjectRow)). all_kept v ≡ true) same (joined first is rest (rows-kept read each (i + 1) n rest others))
  where
    joined : (first : Option ObjectRow) → read i ≡ Some first → (rest : List (ℕ × ObjectRow)) → all_kept rest ≡ true → all_kept (with_live i first rest) ≡ true
    joined None is rest kept = kept
    joined (Some row) is rest kept = and_from (is_object_row row) (all_kept rest) (each i row is) kept

placed-kept : (new : ℕ × ObjectRow) (rows : List (ℕ × ObjectRow)) → is_object_row new.1 ≡ true → all_kept rows ≡ true → all_kept (into_place new rows) ≡ true
placed-kept new [] one kept = and_from (is_object_row new.1) true one refl
placed-kept new (o ∷ rows) one kept =
    let parts = and_parts (is_object_row o.1) (all_kept rows) kept in
    by_order (nat_lt new.1.base o.1.base) parts.0 (placed-kept new rows one parts.1)
  where
    by_order : (v : Bool) → is_object_row o.1 ≡ true → all_kept (into_place new rows) ≡ true → all_kept (if v then new ∷ o ∷ rows else o ∷ into_place new rows) ≡ true
    by_order true here later = and_from (is_object_row new.1) (all_kept (o ∷ rows)) one kept
    by_order false here later = and_from (is_object_row o.1) (all_kept (into_place new rows)) here later

by_base-kept : (rows : List (ℕ × ObjectRow)) → all_kept rows ≡ true → all_kept (by_base rows) ≡ true
by_base-kept [] kept = refl
by_base-kept (o ∷ rows) kept =
    let parts = and_parts (is_object_row o.1) (all_kept rows) kept in
    placed-kept o (by_base rows) parts.0 (by_base-kept rows parts.1)

mapped : (rows : List (ℕ × ObjectRow)) → list_all is_object_row (map (λ (o : ℕ × ObjectRow). o.1) rows) ≡ all_kept rows
mapped [] = refl
mapped (o ∷ rows) = ap (λ v. is_object_row o.1 && v) (mapped rows)

-- each row keeps its ranges
pub held_rows : (v : VolumeHeld) (image : Image) → IsSpelledBy v image → list_all is_object_row (objects_in v) ≡ true
unfolding IsSpelledBy objects_in
held_rows v image is =
    mapped v.objects
    ∙ subst (λ (rows : List (ℕ × ObjectRow)). all_kept rows ≡ true) is.ordered
    (by_base-kept is.objects
    (rows-kept (λ i. object_read (object_row_bytes (pages.coming v.pages image) i)) (λ k row h. live-kept (object_row_bytes (pages.coming v.pages image) k) row h) 0 object_limit is.objects is.objects_are))
