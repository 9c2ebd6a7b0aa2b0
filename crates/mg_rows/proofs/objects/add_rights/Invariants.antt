use Rattle.{mg_model.specs.declared.slots.Pw.Pw, std.proofs.Common.{◌≡◌, ◌+◌, ◌++◌, length, map, take}}
use Rattle.mg_rows.proofs.objects.add_rights.Given as goal

abbrev pub invariant-loop-pw : goal.invariant-loop-pw
invariant-loop-pw l = record {
  value : l.filling ≡ l.initial.filling ++ map (λ (pw : Pw). pw.rights) (take l.pw-index l.passwords);
  long : length l.filling ≡ length l.initial.filling + l.pw-index;
}
