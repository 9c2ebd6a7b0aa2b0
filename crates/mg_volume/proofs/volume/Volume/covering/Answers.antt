use Rattle.{mg_model.specs.Access.covers, mg_volume.{proofs.{Found.row_found, FoundOwn.found_own}, specs.{Held.VolumeHeld, Meaning.objects_in}}}
use Rattle.{mg_volume.specs.contracts.volume.Volume.the_view, std.{proofs.Common.{◌≡◌, None, Some, subst}, specs.Prelude.find}}
use Rattle.mg_volume.proofs.volume.Volume.covering.Goals as goal

pub returns-in-Some-clause-found : goal.returns-in-Some-clause-found
returns-in-Some-clause-found c =
    subst (λ (v : VolumeHeld). Some c.in-Some.row.now ≡ find (λ row. covers row c.args.address) (objects_in v)) c.self.view_is
    (row_found (the_view c.self.inside) (λ row. covers row c.args.address) (Some c.in-Some.row.now) c.in-Some.ensures)

pub returns-in-Some-clause-own : goal.returns-in-Some-clause-own
returns-in-Some-clause-own c =
    found_own (λ row. covers row c.args.address) (objects_in c.args.self.now) (Some c.in-Some.row.now) c.bases_differ.ensures (returns-in-Some-clause-found c)

pub returns-in-None-clause-found : goal.returns-in-None-clause-found
returns-in-None-clause-found c =
    subst (λ (v : VolumeHeld). None ≡ find (λ row. covers row c.args.address) (objects_in v)) c.self.view_is
    (row_found (the_view c.self.inside) (λ row. covers row c.args.address) None c.in-None.ensures)
