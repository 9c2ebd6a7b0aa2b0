use Rattle.{mg_model.specs.{Bytes.words_bytes, Limits.never}, std.proofs.Common.{◌≡◌, ◌+◌, ◌*◌, ◌++◌, length, replicate}}
use Rattle.mg_migrate.proofs.rows.add_untils.Given as goal

abbrev pub invariant-loop : goal.invariant-loop
invariant-loop l = record {
  value : l.filling ≡ l.initial.filling ++ words_bytes (replicate l.counter never);
  long : length l.filling ≡ length l.initial.filling + 8 * l.counter;
}
