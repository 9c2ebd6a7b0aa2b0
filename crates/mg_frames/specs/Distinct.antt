-- No page occurs twice in a table after a page is bound, or some are released.
pub use Rattle.mg_index.specs.DistinctLemmas.{distinct-free, distinct-parts, distinct-put, distinct-released}
