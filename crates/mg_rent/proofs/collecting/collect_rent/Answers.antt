use Rattle.{mg_model.specs.Bank.pages_of, mg_rent.proofs.Charged.{AllCharged, bare, bare-pages, charged-all, charged-more, charged-of, debts-grow}}
use Rattle.{mg_rent.{proofs.Charged.{due-at, kept-at, next-owes, received}, specs.Charging.OweAtMost}, std.proofs.Common.{◌≡◌, ◌+◌, ◌*◌, ◌^◌, ap}}
use Rattle.std.proofs.Common.{sym, ◌∙◌, arith}
use Rattle.mg_rent.proofs.collecting.collect_rent.Goals as goal

pub loop-i-preserved : goal.loop-i-preserved
loop-i-preserved c =
    let within = c.loop-i-test.true in
    let count = c.len-count.ensures.count in
    let pages = c.args.bank.now.pages in
    let rate = c.rate-rate.result in
    let is : rate * c.pages-pages.result ≡ rate * pages_of (bare pages) (c.loop-i.i + 1) = ap (λ p. rate * p) (kept-at pages c.loop-i.bank.pages c.pages-pages.result (c.loop-i.i + 1) c.loop-i.invariant.pages c.pages-pages.ensures ∙ sym (bare-pages pages (c.loop-i.i + 1))) in
    let most = due-at pages c.loop-i.bank.pages rate c.pages-pages.result (c.loop-i.i + 1) c.requires.pages c.rate-rate.ensures.at_most_step_limit c.loop-i.invariant.pages c.pages-pages.ensures in
    record {
      charged = λ owed.
          let before = c.loop-i.invariant.charged owed in
          let few = next-owes (bare pages) rate c.args.bank.now.accounts c.loop-i.bank.accounts c.loop-i.sum c.loop-i.i (2 ^ 60) (omega arith) owed before in
          charged-more (bare pages) rate c.args.bank.now.accounts c.loop-i.bank.accounts c.charge-sum.new.bank.accounts c.loop-i.sum c.charge-sum.result (rate * c.pages-pages.result) c.loop-i.i (omega arith) is before (c.charge-sum.ensures.accounts (omega arith)) (c.charge-sum.ensures.paid (omega arith)) c.charge-sum.ensures.sum;
      count = c.charge-sum.ensures.count ∙ c.loop-i.invariant.count;
      credits = let sum = c.charge-sum.ensures.sum in let before = c.loop-i.invariant.credits in omega arith;
      pages = c.charge-sum.ensures.pages ∙ c.loop-i.invariant.pages;
    }

-- all are charged after the loop
all : (c : goal.After-give) → OweAtMost (2 ^ 60) c.args.bank.now.accounts → AllCharged (bare c.args.bank.now.pages) c.rate-rate.result c.args.bank.now.accounts c.loop-i.bank.accounts c.loop-i.sum
all c owed =
    let end = c.loop-i-test.false in
    let few = c.loop-i.auto.i-end in
    let count = c.len-count.ensures.count in
    charged-all (bare c.args.bank.now.pages) c.rate-rate.result c.args.bank.now.accounts c.loop-i.bank.accounts c.loop-i.sum c.loop-i.i (omega arith) (c.loop-i.invariant.charged owed)

pub returns-clause-collects : goal.returns-clause-collects
returns-clause-collects c owed objects same =
    let of = charged-of objects c.args.bank.now.pages c.rate-rate.result c.args.bank.now.accounts c.loop-i.bank.accounts c.loop-i.sum same (all c owed) in
    rw (← c.rate-rate.ensures.rate)
    (record {
      accounts = received objects c.rate-rate.result c.args.bank.now.accounts c.loop-i.bank.accounts c.give.new.bank.accounts c.loop-i.sum of c.give.ensures.accounts;
      paid = of.paid_is;
    })

pub returns-clause-debts : goal.returns-clause-debts
returns-clause-debts c few owed = debts-grow c.args.bank.now.pages c.rate-rate.result c.args.period c.args.bank.now.accounts c.loop-i.bank.accounts c.give.new.bank.accounts c.loop-i.sum c.requires.pages c.rate-rate.ensures.at_most_step_limit (all c few) c.give.ensures.accounts owed
