use Rattle.{mg_disk.specs.{Disk.only_place, PlaceLemmas.same_as, Runs.from_yet}, mg_layout.{proofs.FormatSteps.close_may, specs.MayFormat.MayFormat}}
use Rattle.{mg_model.specs.Layout.gate_block, std.proofs.Common.refl}
use Rattle.mg_layout.proofs.formatting.format.Goals as goal

pub returns-then-have-need-clause-any_moment : goal.returns-then-have-need-clause-any_moment
returns-then-have-need-clause-any_moment g c =
    let disk = c.args.disk.now in
    let settings = c.args.params.now in
    from_yet g.D.Disk disk (λ image. MayFormat image settings) (g.met.D.Disk.now_has_been disk) (λ i. close_may settings i i (same_as (only_place gate_block) i i refl))
