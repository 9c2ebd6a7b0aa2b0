use Rattle.{mg_mirror.proofs.Copied.same_blocks, std.proofs.Common.{length, rules}}
use Rattle.mg_mirror.proofs.copy.copy_run.Goals as goal

pub returns-clause-copied : goal.returns-clause-copied
returns-clause-copied g c good x was y told i at =
    let run = c.read_blocks.new.out in
    same_blocks c.args.first (length c.args.run.now) run x y c.in_ok-read_blocks.ensures.same_length (c.in_ok-read_blocks.ensures.read x was) (search rules) i at
