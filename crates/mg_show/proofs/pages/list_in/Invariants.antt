use Rattle.{mg_model.specs.{Abbreviations.pairs_from, Bytes.block_words}, mg_show.specs.Marking.named_by, std.proofs.Common.{◌≡◌, length}}
use Rattle.mg_show.proofs.pages.list_in.Given as goal

-- the entries before this one
abbrev pub invariant-loop-k : goal.invariant-loop-k
invariant-loop-k l = record {
  list : named_by l.list ≡ pairs_from (block_words l.block) 0 l.k;
  long : length l.list ≡ l.k;
}
