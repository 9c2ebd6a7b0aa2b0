use Rattle.{mg_show.proofs.Marked.{bases-rise, place-found, place-none}, std.proofs.Common.{ap, arith, inr}}
use Rattle.mg_show.proofs.marks.place_of.Goals as goal

pub returns-then-base : goal.returns-then-base
returns-then-base c =
    let v = c.base.ensures.value in
    let t = c.if-base.true in
    place-none c.args.objects.now c.args.base c.count_below-i.result c.count_below-i.ensures (inr (λ d e. let is = ap (λ r. r.base) (c.nth_ref.ensures d) in absurd (omega arith)))
    (bases-rise c.args.objects.now c.len.ensures.rows c.len.ensures.apart)

pub returns : goal.returns
returns c =
    let v = c.base.ensures.value in
    let t = c.if-base.false in
    place-found c.args.objects.now c.args.base c.count_below-i.result c.nth_ref.result.now (bases-rise c.args.objects.now c.len.ensures.rows c.len.ensures.apart)
    (let n = c.len.ensures.count in let f = c.if-i-len.false in omega arith) c.nth_ref.ensures (omega arith)
