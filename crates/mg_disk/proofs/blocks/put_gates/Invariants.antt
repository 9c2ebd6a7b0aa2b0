use Rattle.{mg_disk.specs.{Blocks.IsGated, Disk.AreBytes}, std.{proofs.Common.{◌≡◌, take}, specs.Vec.vec_len}}
use Rattle.mg_disk.proofs.blocks.put_gates.Given as goal

-- the places so far have gates
abbrev pub invariant-loop-i : goal.invariant-loop-i
invariant-loop-i l =
    (vec_len l.content ≡ vec_len l.initial.content) × IsGated (take l.i-index l.places) l.initial.content.items l.content.items
    × (AreBytes l.initial.content.items → AreBytes l.content.items)
