use Rattle.{mg_model.specs.Abbreviations.advanced, mg_script.{proofs.Whole.{whole-moves, whole-register, whole-turn}, specs.Actions.HasRegister}}
use Rattle.{mg_script.specs.{Actions.{OnlyMoves, carried_out}, declared.actions.Action.Action}, std.proofs.Common.{ap, sym, subst, ◌∙◌}}
use Rattle.mg_script.proofs.actions.execute.Goals as goal

pub returns-clause-turn : goal.returns-clause-turn
returns-clause-turn c state t =
    let row = c.args.row.now in
    c.effect_of.ensures.turn state t ∙ sym (whole-turn state t row c.effect_of.result) ∙ sym (ap (λ (action : Action). carried_out state t (advanced row) action) c.whole.ensures)

pub returns-clause-register : goal.returns-clause-register
returns-clause-register c = subst HasRegister (sym c.whole.ensures) (whole-register c.args.row.now c.effect_of.result c.effect_of.ensures.place)

pub returns-clause-moves : goal.returns-clause-moves
returns-clause-moves c = subst (λ (action : Action). OnlyMoves c.args.row.now action) (sym c.whole.ensures) (whole-moves c.args.row.now c.effect_of.result)
