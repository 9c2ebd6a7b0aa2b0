use Rattle.{mg_rules.specs.EntryLemmas.{entry-free, entry-held}, std.proofs.{Common.{◌==◌, ◌++◌, ◌∷◌, [], ap, sym, ◌∙◌}, lemmas.Bool.eq-eqb}}
use Rattle.std.proofs.lemmas.Result.{on_ok_weaker}
use Rattle.mg_check.proofs.table.take.Goals as goal

pub returns-then-frame-frames-clause-told : goal.returns-then-frame-frames-clause-told
returns-then-frame-frames-clause-told c =
    on_ok_weaker c.add.result
    (λ more entry is told. entry-held entry c.args.frame c.args.frames c.args.table.now.items c.add.new.list.items c.if-frame-frames.true told (more ∙ ap (λ n. c.args.table.now.items ++ n ∷ []) (c.number_at-page.ensures ∙ sym is)))
    c.add.ensures.more

pub returns-then-page-eq0-clause-told : goal.returns-then-page-eq0-clause-told
returns-then-page-eq0-clause-told c entry is told =
    entry-free entry c.args.frame c.args.frames c.args.table.now.items c.if-frame-frames.false told
    (ap (λ n. n == 0) (is ∙ sym c.number_at-page.ensures) ∙ eq-eqb c.number_at-page.result 0 c.if-page-eq0.true)
