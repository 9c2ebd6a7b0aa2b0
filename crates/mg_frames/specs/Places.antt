-- Where a page is in a table.
pub use Rattle.mg_index.specs.PlaceLemmas.{nowhere, nowhere_any, position-here, position-there}
