use Rattle.{mg_model.specs.{Ranges.IsObjectRow, State.ObjectRow}, mg_objects.specs.Held.AreApart, mg_space.proofs.Paid.{paid-between, share-own}}
use Rattle.{mg_space.proofs.Spans.{Between, between-without, can-give, given-now, sum-between}, std.proofs.Common.{◌≡◌, ℕ, List, arith, refl, subst}}
use Rattle.std.{proofs.Common.sym, specs.Prelude.{◌==◌, All, Some, filter, find, not}}
use Rattle.mg_space.proofs.space.Space.remove.Goals as goal

between :
    (base : ℕ) (gone : ℕ × ObjectRow) (old objects : List (ℕ × ObjectRow)) → AreApart old → All (λ (o : ℕ × ObjectRow). IsObjectRow o.1) old → find (λ (o : ℕ × ObjectRow). o.1.base == base) old ≡ Some gone
    → objects ≡ filter (λ (o : ℕ × ObjectRow). not (o.1.base == base)) old → Between gone objects old
between base gone old objects apart rows found is = subst (λ those. Between gone those old) (sym is) (between-without base gone old apart rows found)

pub give-requires : goal.give-requires
give-requires c =
    can-give c.take-gone.result c.take-gone.new.self c.self.inside.objects (between c.args.base c.take-gone.result c.self.inside.objects c.take-gone.new.self c.keep_rules.ensures.apart c.keep_rules.ensures.rows c.take-gone.ensures.gone c.take-gone.ensures.objects) c.span_of-first.result c.span_of-first.ensures.span c.self.inside.free c.self.invariant.free

pub overflow_sub-self : goal.overflow_sub-self
overflow_sub-self c =
    let less = sum-between c.take-gone.result c.take-gone.new.self c.self.inside.objects (between c.args.base c.take-gone.result c.self.inside.objects c.take-gone.new.self c.keep_rules.ensures.apart c.keep_rules.ensures.rows c.take-gone.ensures.gone c.take-gone.ensures.objects) in
    let t = c.self.invariant.total in
    let pages : c.span_of-first.result.1 ≡ c.take-gone.result.1.pages = rw c.span_of-first.ensures.span refl in
    omega arith

pub subtract-requires : goal.subtract-requires
subtract-requires c =
    let payer = c.take-gone.result.1.account in
    let less = paid-between c.take-gone.result c.take-gone.new.self c.self.inside.objects (between c.args.base c.take-gone.result c.self.inside.objects c.take-gone.new.self c.keep_rules.ensures.apart c.keep_rules.ensures.rows c.take-gone.ensures.gone c.take-gone.ensures.objects) payer in
    let own = share-own c.take-gone.result.1 in
    let paid = rw (← c.self.view_is) at c.requires.paid in
    let total = paid payer in
    omega arith

pub invariant_of-self : goal.invariant_of-self
invariant_of-self c =
    let less = sum-between c.take-gone.result c.take-gone.new.self c.self.inside.objects (between c.args.base c.take-gone.result c.self.inside.objects c.take-gone.new.self c.keep_rules.ensures.apart c.keep_rules.ensures.rows c.take-gone.ensures.gone c.take-gone.ensures.objects) in
    let t = c.self.invariant.total in
    let pages : c.span_of-first.result.1 ≡ c.take-gone.result.1.pages = rw c.span_of-first.ensures.span refl in
    record {
      free = given-now c.take-gone.result c.take-gone.new.self c.self.inside.objects (between c.args.base c.take-gone.result c.self.inside.objects c.take-gone.new.self c.keep_rules.ensures.apart c.keep_rules.ensures.rows c.take-gone.ensures.gone c.take-gone.ensures.objects) c.span_of-first.result c.span_of-first.ensures.span c.self.inside.free c.give.new.self c.self.invariant.free c.give.ensures;
      total = omega arith;
    }

pub returns-clause-paid : goal.returns-clause-paid
returns-clause-paid c =
    let paid = rw (← c.self.view_is) at c.requires.paid in
    λ n.
    let more = paid-between c.take-gone.result c.take-gone.new.self c.self.inside.objects (between c.args.base c.take-gone.result c.self.inside.objects c.take-gone.new.self c.keep_rules.ensures.apart c.keep_rules.ensures.rows c.take-gone.ensures.gone c.take-gone.ensures.objects) n in
    let was = paid n in
    let left = c.subtract.ensures.pages n in
    omega arith
