use Rattle.{mg_window.specs.Attached.seen, mg_window_session.proofs.Asked.those_differ, std.proofs.{Common.{sym, ◌∙◌}, lemmas.List.length-map}}
use Rattle.mg_window_session.proofs.words.are_those.Goals as goal

pub returns-then-len-asked : goal.returns-then-len-asked
returns-then-len-asked g c =
    sym (those_differ (seen g.T.Device.held c.args.windows.now) c.args.asked.now (λ e. c.if-len-asked.true (c.len.ensures.count ∙ sym (length-map c.args.windows.now _) ∙ e)))
