use Rattle.{mg_model.specs.{Lines.lines, Words.is_newline}, std.{proofs.Common.{◌≡◌, ℕ, List, ◌++◌, false, take}, specs.List.list_any}}
use Rattle.mg_serve.proofs.partial.PartialLine.add_all.Given as goal

-- the bytes before this one came
abbrev pub invariant-loop-b : goal.invariant-loop-b
invariant-loop-b l = record {
  same : (rest : List ℕ) → lines (l.initial.self ++ (take l.b-index l.bytes ++ rest)) ≡ lines (l.self ++ rest);
  whole : list_any is_newline l.self ≡ false;
}
