use Rattle.{mg_document_session.proofs.Brings.brings-back, std.proofs.{Common.{◌≡◌, sym, ◌∙◌}, lemmas.Option.same_Some}}
use Rattle.mg_document_session.proofs.top_call.top.Goals as goal

pub returns-in-Some-clause-back : goal.returns-in-Some-clause-back
returns-in-Some-clause-back g c =
    λ spelled.
    brings-back c.in-Some.command c.carry_out.result (g.S.Source.left c.args.source.now) (g.S.Source.left c.carry_out.new.source) (g.O.Sink.taken c.args.out.now) (g.O.Sink.taken c.carry_out.new.out)
    (g.E.Sink.taken c.args.err.now) (g.E.Sink.taken c.carry_out.new.err) (c.carry_out.new.err ≡ c.args.err.now) (c.carry_out.new.out ≡ c.args.out.now)
    (same_Some _ _ (sym spelled ∙ sym c.in-Some.ensures.command)) c.carry_out.ensures.keeps.done c.carry_out.ensures.keeps.fault
