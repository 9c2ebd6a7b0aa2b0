-- Pairs of words of a page, for the layers above, in the words of the pages; and the lemma on them.
pub use Rattle.mg_pages.specs.Pairs.{ArePlaces, IsNextPair, words_looked_at}
pub use Rattle.mg_pages.specs.PairLemmas.{same_pairs}
