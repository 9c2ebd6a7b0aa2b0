-- What is said of the rows of a volume is said of the state that they spell.
use Rattle.{mg_check.specs.{Summaries.TellsOf, declared.examining.Summary.Summary}, mg_commands.specs.Unopened.TellsState, mg_disk.specs.Disk.Image}
use Rattle.{mg_model.specs.Volume.{Is, volume}, mg_rules.specs.{RowsRead.{IsReadAs, state_in}, declared.volume_rows.VolumeRows.VolumeRows}}
use Rattle.std.{proofs.Common.{refl, subst}, specs.{Option.ForSome, Prelude.{◌≡◌, [], Option, Some, None}}}

same_image : (a b : Image) → Some a ≡ Some b → a ≡ b
same_image a b is = cc

pub state_told : (summary : Summary) (rows : VolumeRows) (told : Option Image) → ForSome told (IsReadAs rows) → TellsOf summary rows → TellsState summary told
state_told summary rows None read tells = record { state = state_in rows []; is = λ image is. absurd (cc); summed = tells [] }
state_told summary rows (Some image) read tells =
    let r : IsReadAs rows image = read image refl in
    record { state = state_in rows r.replayed; is = λ one is. subst (λ v. volume v ≡ Is (state_in rows r.replayed)) (same_image image one is) r.is; summed = tells r.replayed }
