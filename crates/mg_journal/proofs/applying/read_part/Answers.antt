use Rattle.{mg_journal.proofs.ApplyRuns.part_read, std.proofs.{Common.{◌≡◌, ◌≤◌, ◌-◌, arith, length, rules}, lemmas.Result.on_ok_weaker}}
use Rattle.mg_journal.proofs.applying.read_part.Goals as goal

pub returns-clause-read : goal.returns-clause-read
returns-clause-read g c =
    let span = c.span_of-low.ensures in
    let places = c.args.places.now in
    let low = c.span_of-low.result.0 in
    let high = c.span_of-low.result.1 in
    let within : high ≤ length c.args.journal.now = omega (arith, span.within) in
    let long : length c.read_blocks.new.out ≡ high - low = search rules in
    on_ok_weaker c.read_blocks.result
    (λ read image told has.
    part_read low high c.args.journal.now c.read_blocks.new.out span.ordered within long places c.args.from c.args.to image
    (λ k inside from to. span.all k inside from (let body = c.requires.bodies k inside in omega (arith, body, to))) (read image told) has)
    c.read_blocks.ensures.read
