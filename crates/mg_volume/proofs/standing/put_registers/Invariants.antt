use Rattle.{mg_model.specs.State.ThreadRow, mg_pages.specs.declared.pages.Pages.Pages, mg_volume.specs.Standing.Respells, std.proofs.Common.◌≡◌}
use Rattle.std.proofs.Common.{◌++◌, drop, take}
use Rattle.mg_volume.proofs.standing.put_registers.Given as goal

-- the words of the first registers are those of the new ones
abbrev pub invariant-loop-k : goal.invariant-loop-k
invariant-loop-k l =
    (p : Pages) (first row : ThreadRow) → row.regs ≡ l.old → Respells l.block first row p l.initial.pages → Respells l.block first (record row { regs = take l.k l.new ++ drop l.k l.old }) p l.pages
