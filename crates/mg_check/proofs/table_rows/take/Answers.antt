use Rattle.{mg_rows.specs.Answers.as_read, mg_rules.specs.{LiveRowLemmas.{live_free, live_more}, PlacedLemmas.{kept_more, placed_more, placed_wider}}}
use Rattle.std.proofs.{Common.{◌+◌, ap, sym, ◌∙◌, Some, arith}, lemmas.Result.on_ok_weaker}
use Rattle.mg_check.proofs.table_rows.take.Goals as goal

pub returns-in-Row-clause-taken : goal.returns-in-Row-clause-taken
returns-in-Row-clause-taken g c =
    let i = c.args.i in
    let row = c.in-Row.row in
    let old = c.args.rows.now.items in
    let new = c.add.new.list.items in
    let is = ap as_read c.in-Some.is ∙ ap (λ f. as_read (Some f)) c.in-Row.is in
    on_ok_weaker c.add.result
    (λ more.
    record {
      told = λ read here live. live_more read i row old new live (here ∙ sym c.read-found.ensures.spelled ∙ is) more;
      placed = placed_more i row old new more;
      kept = kept_more g.R.TableRow.IsKept i row old new more (c.read-found.ensures.kept row is);
    })
    c.add.ensures.more

pub returns-in-Free-clause-taken : goal.returns-in-Free-clause-taken
returns-in-Free-clause-taken g c =
    let i = c.args.i in
    let rows = c.args.rows.now.items in
    record {
      told = λ read here live. live_free read i rows live (here ∙ sym c.read-found.ensures.spelled ∙ ap as_read c.in-Some.is ∙ ap (λ f. as_read (Some f)) c.in-Free.is);
      placed = placed_wider i (i + 1) rows (omega arith);
      kept = λ are. are;
    }
