use Rattle.{mg_rules.specs.Spans.{IsWithin, is_in}, std.{proofs.Common.{◌≡◌, drop}, specs.List.{list_all, list_any}}}
use Rattle.mg_rules.proofs.sorted.all_lie_in.Given as goal

-- what is left decides; the last run is within the others
abbrev pub invariant-loop-number : goal.invariant-loop-number
invariant-loop-number l = record {
  rest : list_all (λ number. list_any (is_in number) l.spans) l.numbers ≡ list_all (λ number. list_any (is_in number) l.spans) (drop l.number-index l.numbers);
  within : IsWithin l.last l.spans;
}
