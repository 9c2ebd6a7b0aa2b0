use Rattle.{mg_model.specs.StepwiseLemmas.rights_from, std.proofs.Common.{◌≡◌, ◌<◌, ◌≤◌, drop}}
use Rattle.mg_text.proofs.rights.read_rights.Given as goal

abbrev pub invariant-loop-b : goal.invariant-loop-b
invariant-loop-b l = record {
  same : rights_from 0 l.word ≡ rights_from l.bits (drop l.b-index l.word);
  few : l.bits < 64;
  some : l.b-index ≤ l.bits;
}
