use Rattle.{mg_rows.specs.Blocks.object_in, mg_volume.specs.RowLists.row_at, std.proofs.Common.{◌≡◌, ◌<◌, ◌+◌, ◌*◌, ℕ, Some}}
use Rattle.mg_volume.proofs.object_block.put_rows.Given as goal

abbrev pub invariant-loop-j : goal.invariant-loop-j
invariant-loop-j l = (i : ℕ) → i < l.j → object_in l.block i ≡ Some (row_at (4 * l.quad + i) l.objects)
