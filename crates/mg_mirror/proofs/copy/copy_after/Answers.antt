use Rattle.{mg_disk.specs.{Disk.HasBlocks, Runs.leaves_quiet}, mg_mirror.proofs.Copied.{after_all, torn_behind}, std.proofs.Common.{◌-◌, subst, take}}
use Rattle.std.proofs.{Common.{arith, drop, length, refl, rules, []}, lemmas.{Grind.get_or_after_one, List.{length-drop, take_rest}}}
use Rattle.std.specs.Option.{ForSome}
use Rattle.mg_mirror.proofs.copy.copy_after.Goals as goal

pub returns-clause-copied : goal.returns-clause-copied
returns-clause-copied g c good =
    let d = g.D.Disk in
    let e = g.E.Disk in
    let first = c.args.first.now in
    let one = c.write_blocks.new.self in
    let wrote : ForSome (e.seen one) (HasBlocks 1 (take (length first - 1) (drop 1 first))) = search rules in
    after_all c.args.blocks first (drop 1 first) (d.seen c.args.from.now) (d.seen c.args.from.now) (e.seen c.write_blocks.new.self) (e.seen c.copy_rest.new.to) (e.seen c.sync.new.self)
    (λ k below. let dropped = length-drop 1 first in omega arith) (λ k. get_or_after_one first k []) c.sync.ensures.seen refl c.requires.can.are_first (subst (λ rest. ForSome (e.seen one) (HasBlocks 1 rest)) (take_rest first 1) wrote) c.copy_rest.ensures.seen (c.in_ok-copy_rest.ensures.copied c.if-not-branch.false)

pub returns-in_err-copy_rest-clause-any_moment : goal.returns-in_err-copy_rest-clause-any_moment
returns-in_err-copy_rest-clause-any_moment g c =
    torn_behind g.E.Disk c.args.to.now c.write_blocks.new.self c.copy_rest.new.to _ (length c.args.first.now) c.requires.some c.write_blocks.ensures.stops c.copy_rest.ensures.stops

pub returns-then-not-branch-clause-any_moment : goal.returns-then-not-branch-clause-any_moment
returns-then-not-branch-clause-any_moment g c =
    torn_behind g.E.Disk c.args.to.now c.write_blocks.new.self c.copy_rest.new.to _ (length c.args.first.now) c.requires.some c.write_blocks.ensures.stops c.copy_rest.ensures.stops

pub returns-clause-any_moment : goal.returns-clause-any_moment
returns-clause-any_moment g c =
    leaves_quiet g.E.Disk c.args.to.now c.copy_rest.new.to c.sync.new.self _
    (torn_behind g.E.Disk c.args.to.now c.write_blocks.new.self c.copy_rest.new.to _ (length c.args.first.now) c.requires.some c.write_blocks.ensures.stops c.copy_rest.ensures.stops) c.sync.ensures.stops
