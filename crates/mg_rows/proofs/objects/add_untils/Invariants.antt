use Rattle.{mg_model.specs.{Bytes.words_bytes, declared.slots.Pw.Pw}, std.proofs.Common.{◌≡◌, ◌+◌, ◌*◌, ◌++◌, length, map, take}}
use Rattle.mg_rows.proofs.objects.add_untils.Given as goal

abbrev pub invariant-loop-pw : goal.invariant-loop-pw
invariant-loop-pw l = record {
  value : l.filling ≡ l.initial.filling ++ words_bytes (map (λ (pw : Pw). pw.until) (take l.pw-index l.passwords));
  long : length l.filling ≡ length l.initial.filling + 8 * l.pw-index;
}
