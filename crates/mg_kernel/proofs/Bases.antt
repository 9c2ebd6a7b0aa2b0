-- The rows that are held give the bases of the state's objects.
use Rattle.{mg_access.specs.KnownLemmas.find-rows, mg_disk.specs.Disk.Image, mg_model.specs.{Access.based_at, State.{Object, ObjectRow}}}
use Rattle.{mg_volume.specs.{Held.VolumeHeld, Meaning.{now_of, objects_in}, RunLemmas.told_rows}, std.proofs.Common.{refl, sym, ap, ◌∙◌}}
use Rattle.std.specs.Prelude.{ℕ, ◌≡◌, ◌==◌, find, is_some, option_map, Option, Some, None}

some_row : (o : Option Object) → is_some (option_map (λ (object : Object). object.row) o) ≡ is_some o
some_row None = refl
some_row (Some object) = refl

pub base_told : (v : VolumeHeld) (image : Image) (base : ℕ) → is_some (find (λ (row : ObjectRow). row.base == base) (objects_in v)) ≡ is_some (based_at (now_of v image).objects base)
base_told v image base =
    ap is_some (sym (told_rows v image (λ (row : ObjectRow). row.base == base) (find (λ (row : ObjectRow). row.base == base) (objects_in v)) refl) ∙ find-rows (λ (row : ObjectRow). row.base == base) (now_of v image).objects)
    ∙ some_row (based_at (now_of v image).objects base)
