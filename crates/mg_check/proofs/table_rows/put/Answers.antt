use Rattle.{mg_rows.specs.Answers.as_read, mg_rules.specs.{LiveRowLemmas.{live_free, live_more}, LiveTableLemmas.{behind-filled, long-more}}}
use Rattle.{mg_rules.specs.{PlacedLemmas.{kept_more, placed_more, placed_wider}, RowsRead.live_from}, std.proofs.Common.{rules, ◌+◌, ap, sym, ◌∙◌}}
use Rattle.std.proofs.{Common.{Some, arith}, lemmas.Result.on_ok_weaker}
use Rattle.mg_check.proofs.table_rows.put.Goals as goal

pub returns-in_ok-fill_to-in-Row-clause-taken : goal.returns-in_ok-fill_to-in-Row-clause-taken
returns-in_ok-fill_to-in-Row-clause-taken g c =
    let i = c.args.i in
    let row = c.in-Row.row in
    let old = live_from 0 c.args.rows.now.items in
    let new = live_from 0 c.add.new.list.items in
    let filled = c.in_ok-fill_to-in-Row.ensures in
    let is = ap as_read c.in-Some.is ∙ ap (λ f. as_read (Some f)) c.in-Row.is in
    on_ok_weaker c.add.result
    (λ more.
    let behind = behind-filled i row c.args.rows.now.items c.fill_to.new.rows.items c.add.new.list.items filled.long filled.live more in
    record {
      told = λ read here live. live_more read i row old new live (here ∙ sym c.read-found.ensures.spelled ∙ is) behind;
      placed = placed_more i row old new behind;
      kept = kept_more g.R.TableRow.IsKept i row old new behind (c.read-found.ensures.kept row is);
    })
    c.add.ensures.more

pub returns-in_ok-fill_to-in-Row-clause-long : goal.returns-in_ok-fill_to-in-Row-clause-long
returns-in_ok-fill_to-in-Row-clause-long g c = search (rules, on_ok_weaker, long-more)

pub returns-in-Free-clause-taken : goal.returns-in-Free-clause-taken
returns-in-Free-clause-taken g c =
    let i = c.args.i in
    let rows = live_from 0 c.args.rows.now.items in
    record {
      told = λ read here live. live_free read i rows live (here ∙ sym c.read-found.ensures.spelled ∙ ap as_read c.in-Some.is ∙ ap (λ f. as_read (Some f)) c.in-Free.is);
      placed = placed_wider i (i + 1) rows (omega arith);
      kept = λ are. are;
    }
