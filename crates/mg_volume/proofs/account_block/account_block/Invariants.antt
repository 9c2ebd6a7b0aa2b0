use Rattle.{mg_rows.specs.Blocks.account_in, std.{proofs.Common.{◌≡◌, ◌<◌, ◌+◌, ◌*◌, ℕ, Some}, specs.Prelude.slice_get}}
use Rattle.mg_volume.proofs.account_block.account_block.Given as goal

abbrev pub invariant-loop-j : goal.invariant-loop-j
invariant-loop-j l = (i : ℕ) → i < l.j → account_in l.block i ≡ Some (slice_get l.rows (64 * l.k + i))
