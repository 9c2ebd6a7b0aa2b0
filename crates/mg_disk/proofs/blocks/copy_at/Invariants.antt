use Rattle.{mg_disk.specs.Disk.SameBut, std.{proofs.Common.{◌≡◌, drop, Contains}, specs.Vec.{vec_len, vec_capacity}}}
use Rattle.mg_disk.proofs.blocks.copy_at.Given as goal

-- only the places that are left may differ
abbrev pub invariant-loop-i : goal.invariant-loop-i
invariant-loop-i l =
    (vec_len l.to ≡ vec_len l.initial.to) × (vec_capacity l.to ≡ vec_capacity l.initial.to) × SameBut (Contains (drop l.i-index l.places)) l.to.items l.from.items
