-- Lemmas on what rows say of the objects of a state.
use Rattle.std.{proofs.Common.{refl, sym, ap, ◌∙◌}, specs.{Option.option_map_or, Prelude.{ℕ, ◌≡◌, Bool, true, false}}}
use Rattle.std.specs.Prelude.{List, [], ◌∷◌, if◌then◌else◌, find, map, option_map, Option, Some, None}
use Rattle.{mg_access.specs.Known.rows_know, mg_disk.specs.Disk.Image, mg_model.specs.Access.{at, covers}}
use Rattle.mg_model.specs.{Kept.is_known, State.{Object, ObjectRow}, declared.{rights.Right.Right, seats.Seat.Seat}}
use Rattle.{mg_vcache.specs.Seats.is_kept, mg_volume.specs.{Held.VolumeHeld, Meaning.{now_of, objects_in}}}
use Rattle.mg_volume.specs.RunLemmas.{told_rows}

-- a row that is found is that of the object that is found
pub find-rows : (test : ObjectRow → Bool) (objects : List Object) → find test (map (λ (o : Object). o.row) objects) ≡ option_map (λ (o : Object). o.row) (find (λ (o : Object). test o.row) objects)
find-rows test [] = refl
find-rows test (o ∷ objects) = by_test (test o.row) (find-rows test objects)
  where
    by_test : (v : Bool) → find test (map (λ (o : Object). o.row) objects) ≡ option_map (λ (o : Object). o.row) (find (λ (o : Object). test o.row) objects)
        → (if v then Some o.row else find test (map (λ (o : Object). o.row) objects)) ≡ option_map (λ (o : Object). o.row) (if v then Some o else find (λ (o : Object). test o.row) objects)
    by_test true later = refl
    by_test false later = later

by_object : (seats : List (Option Seat)) (t : ℕ) (right : Right) (o : Option Object)
    → option_map_or (λ key. is_kept seats key) (option_map (λ (object : Object). record { thread = t; base = object.row.base; right = right }) o) false
    ≡ option_map_or (λ (row : ObjectRow). is_kept seats (record { thread = t; base = row.base; right = right })) (option_map (λ (object : Object). object.row) o) false
by_object seats t right None = refl
by_object seats t right (Some object) = refl

-- the rows say whether the key of an access is kept
pub rows_tell : (v : VolumeHeld) (image : Image) (seats : List (Option Seat)) (t a : ℕ) (right : Right)
    → is_known (λ key. is_kept seats key) (now_of v image) (record { thread = t; address = a; right = right }) ≡ rows_know (objects_in v) seats t a right
rows_tell v image seats t a right =
    by_object seats t right (at (now_of v image).objects a)
    ∙ ap (λ o. option_map_or (λ (row : ObjectRow). is_kept seats (record { thread = t; base = row.base; right = right })) o false)
    (sym (find-rows (λ (row : ObjectRow). covers row a) (now_of v image).objects) ∙ told_rows v image (λ (row : ObjectRow). covers row a) (find (λ (row : ObjectRow). covers row a) (objects_in v)) refl)
