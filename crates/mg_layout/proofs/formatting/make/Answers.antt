use Rattle.mg_layout.proofs.{FormatSteps.{all_made, first_phase, rest_of, second_phase, third_phase}, FreshBlocks.at_gate}
use Rattle.{mg_model.specs.Fresh.fresh, std.proofs.{Common.{◌∙◌, arith}, lemmas.Result.on_ok_weaker}}
use Rattle.mg_layout.proofs.formatting.make.Goals as goal

pub returns-in_err-write_firmly-clause-any_moment : goal.returns-in_err-write_firmly-clause-any_moment
returns-in_err-write_firmly-clause-any_moment g c = first_phase g.D.Disk c.args.params.now c.args.disk.now c.write_firmly.new.disk c.write_firmly.ensures.from_any

pub returns-in_err-write_behind-clause-any_moment : goal.returns-in_err-write_behind-clause-any_moment
returns-in_err-write_behind-clause-any_moment g c =
    let p = c.args.params.now in
    let old = c.args.disk.now in
    second_phase g.D.Disk p old c.requires.within_disk (g.met.D.Disk.seen_count old) c.write_firmly.new.disk c.write_behind.new.disk c.in_ok-write_firmly.ensures.settled c.in_ok-write_firmly.ensures.written
    (first_phase g.D.Disk p old c.write_firmly.new.disk c.write_firmly.ensures.from_any)
    c.write_behind.ensures.any_moment

pub returns-clause-any_moment : goal.returns-clause-any_moment
returns-clause-any_moment g c =
    let p = c.args.params.now in
    let old = c.args.disk.now in
    let room = c.requires.within_disk in
    let count = g.met.D.Disk.seen_count old in
    let closed = c.in_ok-write_firmly.ensures.written in
    third_phase g.D.Disk p old room count c.keep_rules.ensures.rules c.write_behind.new.disk c.write_firmly-2.new.disk c.in_ok-write_behind.ensures.settled
    (rest_of p (g.D.Disk.seen old) (g.D.Disk.seen c.write_firmly.new.disk) (g.D.Disk.seen c.write_behind.new.disk) closed c.in_ok-write_behind.ensures.written)
    (second_phase g.D.Disk p old room count c.write_firmly.new.disk c.write_behind.new.disk c.in_ok-write_firmly.ensures.settled closed
    (first_phase g.D.Disk p old c.write_firmly.new.disk c.write_firmly.ensures.from_any)
    c.write_behind.ensures.any_moment)
    c.write_firmly-2.ensures.from_any

pub returns-clause-made : goal.returns-clause-made
returns-clause-made g c =
    let p = c.args.params.now in
    on_ok_weaker c.write_firmly-2.result
    (λ last.
    all_made p c.keep_rules.ensures.rules (g.D.Disk.seen c.args.disk.now) (g.D.Disk.seen c.write_firmly.new.disk) (g.D.Disk.seen c.write_behind.new.disk) (g.D.Disk.seen c.write_firmly-2.new.disk) c.fresh_block.new.out
    (c.fresh_block.ensures ∙ at_gate p (fresh p))
    c.in_ok-write_firmly.ensures.written c.in_ok-write_behind.ensures.written last
    (λ image told. let count = g.met.D.Disk.seen_count c.args.disk.now image told in let r = c.requires.within_disk in omega arith))
    c.write_firmly-2.ensures.written
