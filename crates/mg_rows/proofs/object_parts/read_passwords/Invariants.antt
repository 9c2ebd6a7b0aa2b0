use Rattle.{mg_model.specs.{Abbreviations.passwords_at, Tests.is_password}, std.{proofs.Common.{◌≡◌, true}, specs.List.list_all}}
use Rattle.mg_rows.proofs.object_parts.read_passwords.Given as goal

abbrev pub invariant-loop-k : goal.invariant-loop-k
invariant-loop-k l = record {
  value : l.row ≡ record l.initial.row { passwords = passwords_at l.bytes 0 l.k };
  rule : list_all is_password (passwords_at l.bytes 0 l.k) ≡ true;
}
