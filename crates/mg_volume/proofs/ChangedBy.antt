-- A change of the row with a base writes one row, if only one row has the base.
use Rattle.{mg_disk.specs.Disk.Image, mg_model.specs.{KeptListLemmas.All-unmap, Objects.with_row, State.{Object, ObjectRow}}}
use Rattle.mg_volume.{proofs.{FoundOwn.rows_distinct, ObjectLists.change-none}, specs.{Held.VolumeHeld, Meaning.{IsKept, now_of, objects_in}}}
use Rattle.{mg_volume.specs.{RowLists.DistinctBy, StateLemmas.now_rows}, std.proofs.{Common.{arith, refl, sym, ap, subst}, lemmas.Bool.eqb-true}}
use Rattle.std.specs.Prelude.{◌≡◌, ◌≢◌, ◌==◌, Bool, ℕ, true, false, All, List, [], ◌∷◌, find, if◌then◌else◌, map, IfSome, Some}

abbrev bare : List Object → List ObjectRow
bare objects = map (λ (o : Object). o.row) objects

same-change : (base : ℕ) (row : ObjectRow) (change : ObjectRow → ObjectRow) (objects : List Object) → DistinctBy (λ (y : ObjectRow). y.base) (bare objects) → IfSome (find (λ (r : ObjectRow). r.base == base) (bare objects)) (λ old. change old ≡ row)
    → with_row base (λ old. row) objects ≡ with_row base change objects
same-change base row change [] distinct gives = refl
same-change base row change (o ∷ objects) distinct gives = by_test (o.row.base == base) refl gives (same-change base row change objects distinct.1)
  where
    none : (f : ObjectRow → ObjectRow) → o.row.base ≡ base → with_row base f objects ≡ objects
    none f own =
        let differ : All (λ (r : ObjectRow). r.base ≢ base) (bare objects) = subst (λ n. All (λ (r : ObjectRow). r.base ≢ n) (bare objects)) own distinct.0 in
        change-none (λ (o : Object). o.row.base) (λ o. record o { row = f o.row }) base objects (All-unmap (λ (r : ObjectRow). r.base ≢ base) (λ (o : Object). o.row) objects differ)

    by_test : (v : Bool) → (o.row.base == base) ≡ v → IfSome (if v then Some o.row else find (λ (r : ObjectRow). r.base == base) (bare objects)) (λ old. change old ≡ row)
        → (IfSome (find (λ (r : ObjectRow). r.base == base) (bare objects)) (λ old. change old ≡ row) → with_row base (λ old. row) objects ≡ with_row base change objects)
        → (if v then record o { row = row } else o) ∷ with_row base (λ old. row) objects ≡ (if v then record o { row = change o.row } else o) ∷ with_row base change objects
    by_test true is gives later = grind (arith, eqb-true, none)
    by_test false is gives later = ap (λ rest. o ∷ rest) (later gives)

pub changed_by : (v : VolumeHeld) (image : Image) (row : ObjectRow) (change : ObjectRow → ObjectRow) → IsKept v → IfSome (find (λ (old : ObjectRow). old.base == row.base) (objects_in v)) (λ old. change old ≡ row)
    → with_row row.base (λ old. row) (now_of v image).objects ≡ with_row row.base change (now_of v image).objects
changed_by v image row change kept gives =
    let rows = sym (now_rows v image) in
    same-change row.base row change (now_of v image).objects (subst (DistinctBy (λ (y : ObjectRow). y.base)) rows (rows_distinct v kept))
    (subst (λ l. IfSome (find (λ (r : ObjectRow). r.base == row.base) l) (λ old. change old ≡ row)) rows gives)
