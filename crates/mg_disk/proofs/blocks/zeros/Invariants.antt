use Rattle.{mg_disk.specs.{Blocks.zeros_of, Disk.AreBytes}, std.{proofs.Common.◌≡◌, specs.Vec.vec_len}}
use Rattle.mg_disk.proofs.blocks.zeros.Given as goal

-- the blocks so far
abbrev pub invariant-loop : goal.invariant-loop
invariant-loop l = (l.content.items ≡ zeros_of l.counter) × (vec_len l.content ≡ l.counter) × AreBytes l.content.items
