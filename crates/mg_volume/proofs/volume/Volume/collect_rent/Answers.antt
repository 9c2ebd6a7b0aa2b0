use Rattle.{mg_disk.specs.Disk.Image, mg_model.specs.{Bank.{rate_now, rate_of}, Settings.Settings, State.Object}, mg_space.specs.Space.AreRowsOf}
use Rattle.mg_volume.proofs.{AccountLists.all_within, AccountsStaged.{accounts_changes, with_accounts}, Collected.{few-pages, pages-are, rate_is}}
use Rattle.mg_volume.{proofs.Collected.{rent_is, rented}, specs.{Changes.Changes, Meaning.{accounts_in, now_of}, contracts.volume.Volume.the_view}}
use Rattle.std.{proofs.Common.{◌≡◌, ◌∙◌, List, ap, arith}, specs.Prelude.nat_lt}
use Rattle.mg_volume.proofs.volume.Volume.collect_rent.Goals as goal

pub collect_rent-requires-clause-pages : goal.collect_rent-requires-clause-pages
collect_rent-requires-clause-pages c n =
    let fit = c.self.invariant.kept.used in
    few-pages c.self.inside.objects c.self.inside.bank.pages c.self.invariant.paid (omega (arith, c.keep_rules.ensures.at_most_65536_frames)) n

changes : (c : goal.After-stage_first) → Changes 16 (λ state. record state { accounts = c.collect_rent.new.bank.accounts }) (λ rows. rows) (the_view c.self.inside) (with_accounts (the_view c.self.inside) c.collect_rent.new.bank.accounts c.stage_first.new.pages)
changes c =
    let v = the_view c.self.inside in
    let blocks = c.block_count-blocks.result in
    let rows = c.collect_rent.new.bank.accounts in
    let was = c.self.invariant.kept.few_accounts in
    let same = c.in_ok-told.ensures.keeps.count in
    let count = c.len.ensures.count in
    let all = c.block_count-blocks.ensures.all in
    accounts_changes v c.stage_first.new.pages 16 (λ k. nat_lt k blocks) rows (rw c.rows.ensures at c.stage_first.ensures) (all_within blocks v.accounts rows same (omega arith)) (omega arith)

-- the rate is that of the state
rate : (c : goal.After-stage_first) (image : Image) → rate_of c.tariff-tariff.result c.used-used.result ≡ rate_now (now_of c.args.self.now image)
rate c image = ap (λ t. rate_of t c.used-used.result) (c.tariff-tariff.ensures ∙ ap (λ (s : Settings). s.tariff) c.params.ensures) ∙ rate_is c.args.self.now image c.used-used.result c.used-used.ensures.used

pub returns-clause-rate : goal.returns-clause-rate
returns-clause-rate c image = c.in_ok-told.ensures.rate ∙ rate c image

pub returns-clause-collects : goal.returns-clause-collects
unfolding accounts_in
returns-clause-collects c =
    let rated = rw (← c.self.view_is) at (rate c) in
    rw (← c.self.view_is)
    (λ few image.
    let v = the_view c.self.inside in
    let collected = λ (objects : List Object) (same : AreRowsOf objects v.objects). c.in_ok-told.ensures.collects few objects (pages-are objects v.objects c.self.inside.bank.pages same c.self.invariant.paid) in
    let per = rate_of c.tariff-tariff.result c.used-used.result in
    record {
      accounts_are = rented v c.collect_rent.new.bank.accounts per image (rated image) (λ objects same. (collected objects same).accounts);
      paid = rent_is v c.in_ok-told.told.1 per image (rated image) (λ objects same. (collected objects same).paid);
    })

pub returns-clause-changes : goal.returns-clause-changes
unfolding accounts_in
returns-clause-changes c = rw (← c.self.view_is) (changes c)
