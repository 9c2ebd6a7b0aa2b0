use Rattle.{mg_model.specs.{Tests.all_distinct, Volume.bound_pages}, mg_rules.proofs.StateFits.{accounts-test, bad-accounts, bad-objects, decided}}
use Rattle.mg_rules.{proofs.StateFits.{objects-test, threads-test}, specs.{RowsRead.{live_from, objects_of}, Rules.{AreSpans, Decides}, Spans.is_in}}
use Rattle.std.{proofs.{Common.{rules, ◌≡◌, ◌&&◌, length, sym, subst, ap, ◌∙◌}, lemmas.Result.IfOk-weaker}, specs.List.{list_all, list_any}}
use Rattle.mg_rules.proofs.volume_rows.VolumeRows.fit.Goals as goal

pub returns-then-not-accounts_fit : goal.returns-then-not-accounts_fit
returns-then-not-accounts_fit c = search (rules, bad-accounts, accounts-test)

pub returns-then-not-objects_fit : goal.returns-then-not-objects_fit
returns-then-not-objects_fit c =
    let rows = c.args.self.now in
    bad-objects rows (accounts-test rows c.accounts_fit.result c.credits.result c.deref.result.now c.accounts_fit.ensures c.credits.ensures.value c.deref.ensures.value ∙ c.if-not-accounts_fit.false)
    (λ image.
    objects-test rows c.objects_fit.result c.frames.result c.len-accounts.result (live_from 0 c.deref-3.result.now) c.objects_fit.ensures.fit c.frames.ensures.value (c.len-accounts.ensures ∙ sym c.deref.ensures.len ∙ ap length c.deref.ensures.value) (ap (live_from 0) c.deref-3.ensures.value) image
    ∙ c.if-not-objects_fit.true)

pub returns : goal.returns
returns c =
    let rows = c.args.self.now in
    let spans = c.in_ok-spans.spans.items in
    let accounts = accounts-test rows c.accounts_fit.result c.credits.result c.deref.result.now c.accounts_fit.ensures c.credits.ensures.value c.deref.ensures.value ∙ c.if-not-accounts_fit.false in
    let threads = threads-test rows c.in_ok-threads_fit.field-0 c.births.result c.deref-5.result.now c.in_ok-threads_fit.ensures c.births.ensures c.deref-5.ensures.value ∙ c.if-not-branch.false in
    let are : AreSpans spans (objects_of rows) = subst (AreSpans spans) (ap (live_from 0) c.deref-2.ensures.value) c.in_ok-spans.ensures in
    IfOk-weaker c.table_fits.result (λ fit. fit ≡ (list_all (λ page. list_any (is_in page) c.deref-7.result.now) (bound_pages c.deref-6.result.now) && all_distinct (bound_pages c.deref-6.result.now))) (λ fit. Decides fit rows)
    (λ fit is.
    decided rows accounts
    (λ image.
    objects-test rows c.objects_fit.result c.frames.result c.len-accounts.result (live_from 0 c.deref-3.result.now) c.objects_fit.ensures.fit c.frames.ensures.value (c.len-accounts.ensures ∙ sym c.deref.ensures.len ∙ ap length c.deref.ensures.value) (ap (live_from 0) c.deref-3.ensures.value) image
    ∙ c.if-not-objects_fit.false)
    threads spans are fit
    (is
    ∙ ap (λ xs. list_all (λ page. list_any (is_in page) xs) (bound_pages c.deref-6.result.now) && all_distinct (bound_pages c.deref-6.result.now)) c.deref-7.ensures.value
    ∙ ap (λ ps. list_all (λ page. list_any (is_in page) spans) (bound_pages ps) && all_distinct (bound_pages ps)) c.deref-6.ensures.value))
    c.table_fits.ensures
