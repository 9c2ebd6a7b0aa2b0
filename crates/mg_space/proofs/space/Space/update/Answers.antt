use Rattle.{mg_ranges.specs.Gaps.AreGapsOf, mg_space.proofs.{Paid.{paid-few, row-changed, share-own}, Spans.{spans-row, sum-fits, sum-spans}}}
use Rattle.{mg_space.specs.Space.{paid_by, spans_in}, std.proofs.Common.{◌≡◌, ◌∙◌, ℕ, List, ap, arith, subst, sym, sum_by}}
use Rattle.mg_space.proofs.space.Space.update.Goals as goal

pub subtract-requires : goal.subtract-requires
subtract-requires c =
    let old = c.replaced-old.result in
    let payer = old.account in
    let change = row-changed c.args.row old c.self.inside.objects c.keep_rules.ensures.apart c.keep_rules.ensures.rows c.replaced-old.ensures payer in
    let was = change.before in
    let own = share-own old in
    let paid = rw (← c.self.view_is) at c.requires.paid in
    let total = paid payer in
    omega arith

pub add-requires : goal.add-requires
add-requires c =
    let row = c.args.row in
    let old = c.replaced-old.result in
    let payer = row.account in
    let objects = c.replace-place.new.self in
    let change = row-changed row old c.self.inside.objects c.keep_rules.ensures.apart c.keep_rules.ensures.rows c.replaced-old.ensures payer in
    let was = change.before in
    let now = change.after in
    let is = ap (paid_by payer) c.replace-place.ensures.objects in
    let few = paid-few payer objects in
    let fits = sum-fits objects c.keep_rules-2.ensures.at_most_4096 c.keep_rules-2.ensures.rows in
    let own = share-own row in
    let paid = rw (← c.self.view_is) at c.requires.paid in
    let total = paid payer in
    let less = c.subtract.ensures.pages payer in
    omega arith

pub invariant_of-self : goal.invariant_of-self
invariant_of-self c =
    let row = c.args.row in
    let old = c.replaced-old.result in
    let pages = rw (← c.self.view_is) at c.requires.pages in
    let objects = c.self.inside.objects in
    let same : spans_in c.replace-place.new.self ≡ spans_in objects = ap spans_in c.replace-place.ensures.objects ∙ spans-row row objects pages in
    let P : List (ℕ × ℕ) → Type 0 = λ spans. AreGapsOf spans c.self.inside.free in
    let now = sum-spans c.replace-place.new.self in
    let was = sum-spans objects in
    let e = ap (sum_by (λ (span : ℕ × ℕ). span.1)) same in
    let t = c.self.invariant.total in
    record {
      free = subst P (sym same) c.self.invariant.free;
      total = omega arith;
    }

pub returns-clause-paid : goal.returns-clause-paid
returns-clause-paid c =
    let row = c.args.row in
    let old = c.replaced-old.result in
    let objects = c.self.inside.objects in
    let paid = rw (← c.self.view_is) at c.requires.paid in
    λ n.
    let change = row-changed row old objects c.keep_rules.ensures.apart c.keep_rules.ensures.rows c.replaced-old.ensures n in
    let was = change.before in
    let now = change.after in
    let is = ap (paid_by n) c.replace-place.ensures.objects in
    let total = paid n in
    let less = c.subtract.ensures.pages n in
    let more = c.add.ensures.pages n in
    omega arith
