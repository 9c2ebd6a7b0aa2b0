use Rattle.{mg_model.specs.{Abbreviations.no_row, State.ObjectRow}, mg_space.{proofs.{Paid.{paid-few, paid-more}, Spans.sum-part}, specs.Space.share}}
use Rattle.std.proofs.Common.{◌+◌, ◌<◌, ◌∙◌, ℕ, ap, arith, length, sym, take}
use Rattle.mg_space.proofs.paying.bill.Goals as goal

pub add-requires : goal.add-requires
add-requires c =
    let objects = c.args.objects.now in
    let i = c.loop-i.i in
    let row = c.nth_ref.result.now in
    let e = c.len-i-end.ensures.count in
    let under : i < length objects = omega (arith, c.loop-i-test.true) in
    let few = paid-few row.account (take i objects) in
    let part = sum-part objects i (omega arith) (omega (arith, c.len-i-end.ensures.at_most_4096)) c.len-i-end.ensures.rows in
    let total = c.loop-i.invariant.pages row.account in
    let d : ℕ × ObjectRow = (0, no_row) in
    let own = (c.len-i-end.ensures.rows i d under).place.few in
    let pages = ap (λ (r : ObjectRow). r.pages) (c.nth_ref.ensures d) in
    omega arith

pub loop-i-preserved : goal.loop-i-preserved
loop-i-preserved c =
    let objects = c.args.objects.now in
    let i = c.loop-i.i in
    let d : ℕ × ObjectRow = (0, no_row) in
    let e = c.len-i-end.ensures.count in
    let under : i < length objects = omega (arith, c.loop-i-test.true) in
    record {
      pages = λ n. c.add.ensures.pages n ∙ ap (λ paid. paid + share c.nth_ref.result.now n) (c.loop-i.invariant.pages n) ∙ sym (paid-more objects i d c.nth_ref.result.now under (c.nth_ref.ensures d) n);
      accounts = c.add.ensures.accounts ∙ c.loop-i.invariant.accounts;
    }
