use Rattle.{mg_rules.specs.Spans.apart_from, std.proofs.Common.{◌≡◌, drop}}
use Rattle.mg_rules.proofs.sorted.are_apart.Given as goal

-- what is left decides
abbrev pub invariant-loop-span : goal.invariant-loop-span
invariant-loop-span l = apart_from 0 l.spans ≡ apart_from l.bound (drop l.span-index l.spans)
