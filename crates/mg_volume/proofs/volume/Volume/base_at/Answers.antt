use Rattle.{mg_model.specs.Access.covers, mg_volume.{proofs.{Found.row_found, volume.Volume.base_at.Goals.{in-Some, in-None}}, specs.Held.VolumeHeld}}
use Rattle.{mg_volume.specs.{Meaning.{IsBaseAt, objects_in}, contracts.volume.Volume.the_view}, std.proofs.Common.{◌≡◌, None, Some, sym, subst}}
use Rattle.std.specs.Prelude.{ℕ, find, MatchOption, Option}
use Rattle.mg_volume.proofs.volume.Volume.base_at.Goals as goal

pub returns-clause-base : goal.returns-clause-base
returns-clause-base c =
    let P : Option ℕ → Type 0 = λ result. MatchOption result (find (λ row. covers row c.args.address) (objects_in c.args.self.now) ≡ None) (λ base. IsBaseAt c.args.self.now c.args.address base) in
    elim c.match-covering_near.branch [
      | in-Some w ↦ subst P (sym w.result-is)
          (subst (λ (v : VolumeHeld). IsBaseAt v c.args.address w.base.result) c.self.view_is
          (record {
            row = w.in-Some.row.now;
            found = sym (row_found (the_view c.self.inside) (λ row. covers row c.args.address) (Some w.in-Some.row.now) w.in-Some.ensures);
            is = w.base.ensures.value;
            rules = w.base.ensures.kept;
          }))
      | in-None w ↦ subst P (sym w.result-is)
          (subst (λ (v : VolumeHeld). find (λ row. covers row c.args.address) (objects_in v) ≡ None) c.self.view_is
          (sym (row_found (the_view c.self.inside) (λ row. covers row c.args.address) None w.in-None.ensures)))
    ]
