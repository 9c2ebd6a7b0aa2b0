use Rattle.{mg_model.specs.State.ObjectRow, mg_objects.specs.Held.into_place, mg_space.proofs.Paid.{paid-between, paid-few, share-own}}
use Rattle.mg_space.{proofs.Spans.{Between, between-into, can-take, sum-between, sum-fits, taken-now, taken-spans}, specs.Space.share}
use Rattle.std.proofs.Common.{◌≡◌, ◌+◌, ◌∙◌, ℕ, List, ap, arith, refl, subst, sym}
use Rattle.mg_space.proofs.space.Space.insert.Goals as goal

between : (new : ℕ × ObjectRow) (old objects : List (ℕ × ObjectRow)) → objects ≡ into_place new old → Between new old objects
between new old objects is = subst (λ those. Between new old those) (sym is) (between-into new old)

pub take-requires : goal.take-requires
take-requires c =
    let objects = c.put-place.new.self in
    let taken = taken-spans objects c.keep_rules.ensures.at_most_4096 c.keep_rules.ensures.apart c.keep_rules.ensures.rows in
    can-take (c.put-place.result, c.args.row) c.self.inside.objects objects (between (c.put-place.result, c.args.row) c.self.inside.objects objects c.put-place.ensures.objects) c.span_of-first.result c.span_of-first.ensures.span c.self.inside.free c.self.invariant.free taken

pub overflow_add-self : goal.overflow_add-self
overflow_add-self c =
    let objects = c.put-place.new.self in
    let fits = sum-fits objects c.keep_rules.ensures.at_most_4096 c.keep_rules.ensures.rows in
    let more = sum-between (c.put-place.result, c.args.row) c.self.inside.objects objects (between (c.put-place.result, c.args.row) c.self.inside.objects objects c.put-place.ensures.objects) in
    let t = c.self.invariant.total in
    let span = c.span_of-first.ensures.span in
    let pages : c.span_of-first.result.1 ≡ c.args.row.pages = rw span refl in
    omega arith

pub add-requires : goal.add-requires
add-requires c =
    let objects = c.put-place.new.self in
    let fits = sum-fits objects c.keep_rules.ensures.at_most_4096 c.keep_rules.ensures.rows in
    let payer = c.args.row.account in
    let more = paid-between (c.put-place.result, c.args.row) c.self.inside.objects objects (between (c.put-place.result, c.args.row) c.self.inside.objects objects c.put-place.ensures.objects) payer in
    let few = paid-few payer objects in
    let own = share-own c.args.row in
    let paid = rw (← c.self.view_is) at c.requires.paid in
    let total = paid payer in
    omega arith

pub invariant_of-self : goal.invariant_of-self
invariant_of-self c =
    let objects = c.put-place.new.self in
    let taken = taken-spans objects c.keep_rules.ensures.at_most_4096 c.keep_rules.ensures.apart c.keep_rules.ensures.rows in
    let more = sum-between (c.put-place.result, c.args.row) c.self.inside.objects objects (between (c.put-place.result, c.args.row) c.self.inside.objects objects c.put-place.ensures.objects) in
    let t = c.self.invariant.total in
    let pages : c.span_of-first.result.1 ≡ c.args.row.pages = rw c.span_of-first.ensures.span refl in
    record {
      free = taken-now (c.put-place.result, c.args.row) c.self.inside.objects objects (between (c.put-place.result, c.args.row) c.self.inside.objects objects c.put-place.ensures.objects) c.span_of-first.result c.span_of-first.ensures.span c.self.inside.free c.take.new.self c.self.invariant.free taken c.take.ensures;
      total = omega arith;
    }

pub returns-clause-paid : goal.returns-clause-paid
returns-clause-paid c =
    let was = rw (← c.self.view_is) at c.requires.paid in
    let objects = c.put-place.new.self in
    λ n.
    c.add.ensures.pages n ∙ ap (λ paid. paid + share c.args.row n) (was n) ∙ sym (paid-between (c.put-place.result, c.args.row) c.self.inside.objects objects (between (c.put-place.result, c.args.row) c.self.inside.objects objects c.put-place.ensures.objects) n)
