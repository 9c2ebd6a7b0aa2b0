use Rattle.{mg_volume.proofs.Respelled.goes_on, std.{proofs.Common.{◌+◌, ◌*◌}, specs.Prelude.slice_set}}
use Rattle.mg_volume.proofs.standing.put_register.Goals as goal

pub returns : goal.returns
returns c p first row eight is told =
    goes_on c.args.block (64 + 8 * c.args.k) c.args.new first row (record row { regs = slice_set row.regs c.args.k c.args.new }) p c.args.pages.now c.put-staged.new.self
    (c.threads_change_by_words.ensures.register row c.args.k c.args.new eight c.requires.k_below_8) c.put-staged.ensures.put told
