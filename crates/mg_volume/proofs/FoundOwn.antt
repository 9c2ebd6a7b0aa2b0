-- A row that is found is what its base finds.
use Rattle.{mg_model.specs.State.ObjectRow, mg_volume.proofs.{Found.found_keeps, ObjectChanged.distinct_bare, ObjectStaged.bases_distinct}}
use Rattle.{mg_volume.specs.{Held.VolumeHeld, Meaning.{IsKept, objects_in}, RowLists.DistinctBy}, std.proofs.Common.{sym, arith}}
use Rattle.std.{proofs.lemmas.Bool.Decides.nat_tests, specs.Prelude.{◌≡◌, ◌≢◌, ◌==◌, Bool, List, [], ◌∷◌, find, Option, Some, None, IfSome}}

own : (test : ObjectRow → Bool) (rows : List ObjectRow) (row : ObjectRow) → DistinctBy (λ (y : ObjectRow). y.base) rows → find test rows ≡ Some row → find (λ (other : ObjectRow). other.base == row.base) rows ≡ Some row
own test [] row distinct h = cc
own test (first ∷ rows) row distinct h =
    let other : find test rows ≡ Some row → row.base ≢ first.base = found_keeps (λ (y : ObjectRow). y.base ≢ first.base) test rows row distinct.0 in
    grind (arith, nat_tests, h, other, own test rows row distinct.1)

pub found_own : (test : ObjectRow → Bool) (rows : List ObjectRow) (o : Option ObjectRow) → DistinctBy (λ (y : ObjectRow). y.base) rows → o ≡ find test rows → IfSome o (λ row. find (λ (other : ObjectRow). other.base == row.base) rows ≡ Some row)
found_own test rows None distinct h = tt
found_own test rows (Some row) distinct h = own test rows row distinct (sym h)

-- no two rows that are held have one base
pub rows_distinct : (v : VolumeHeld) → IsKept v → DistinctBy (λ (y : ObjectRow). y.base) (objects_in v)
unfolding objects_in
rows_distinct v kept = distinct_bare v.objects (bases_distinct v kept)
