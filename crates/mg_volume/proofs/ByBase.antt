-- The object with a base has another row, or is a new one.
use Rattle.{mg_model.specs.{Objects.{with_object, with_row}, State.{Object, ObjectRow, State}}, mg_volume.specs.Staging.{blank, has_base}}
use Rattle.{mg_volume.specs.Staging.objects_with, std.{proofs.Common.{refl, sym, ap, ◌∙◌}, specs.{List.list_any, Prelude.{◌≡◌, ◌||◌, Bool, true}}}}
use Rattle.std.specs.Prelude.{false, List, [], ◌∷◌, find, if◌then◌else◌, is_some, map, Option, Some, None, IfSome}

pub some_found : {X : Type 0} (test : X → Bool) (xs : List X) → is_some (find test xs) ≡ list_any test xs
some_found test [] = refl
some_found test (x ∷ xs) = by_test (test x) (some_found test xs)
  where
    by_test : (v : Bool) → is_some (find test xs) ≡ list_any test xs → is_some (if v then Some x else find test xs) ≡ (v || list_any test xs)
    by_test true rest = refl
    by_test false rest = rest

pub always : {X : Type 0} (o : Option X) (P : Type 0) → P → IfSome o (λ x. P)
always None P p = tt
always (Some x) P p = p

-- whatever the test says
abbrev pub objects_by : ObjectRow → Bool → List Object → List Object
objects_by row there objects = if there then with_row row.base (λ old. row) objects else with_object (blank row) objects

pub put_now : (state new : State) (rows : List ObjectRow) (row : ObjectRow) (there : Bool) → map (λ (object : Object). object.row) state.objects ≡ rows → there ≡ has_base row.base rows
    → new ≡ record state { objects = objects_by row there state.objects } → new ≡ record state { objects = objects_with row.base (Some row) state.objects }
put_now state new rows row there are is put = put ∙ ap (λ t. record state { objects = objects_by row t state.objects }) (is ∙ ap (has_base row.base) (sym are))
