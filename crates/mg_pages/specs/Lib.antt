-- Definitions, in the order in which one reads them. First what a layer above sees.
pub mod Kept
pub mod Committing
pub mod Held
pub mod Pairs
pub mod Meaning
-- What the parts of this crate do.
pub mod Entries
pub mod Parts
pub mod Loading
-- Lemmas that crates above cite. None of them is part of a statement.
pub mod ComingLemmas
pub mod LengthLemmas
pub mod PairLemmas
pub mod SpelledLemmas
