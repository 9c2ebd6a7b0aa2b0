use Rattle.{mg_rules.specs.Spans.rises_from, std.proofs.Common.{◌≡◌, ◌≤◌, ◌^◌, drop}}
use Rattle.mg_rules.proofs.sorted.rise.Given as goal

-- what is left decides
abbrev pub invariant-loop-number : goal.invariant-loop-number
invariant-loop-number l = record {
  rest : rises_from 0 l.numbers ≡ rises_from l.bound (drop l.number-index l.numbers);
  fits : l.bound ≤ 2 ^ 64;
}
