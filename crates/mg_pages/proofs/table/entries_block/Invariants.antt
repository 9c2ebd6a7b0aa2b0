use Rattle.{mg_model.specs.Bytes.number_at, std.proofs.Common.{◌≡◌, ◌<◌, ◌+◌, ◌*◌, ℕ, get_or}}
use Rattle.mg_pages.proofs.table.entries_block.Given as goal

-- the entries so far are there
abbrev pub invariant-loop-j : goal.invariant-loop-j
invariant-loop-j l = (i : ℕ) → i < l.j → number_at l.block (8 * i) ≡ get_or l.frames (512 * l.k + i) 0
