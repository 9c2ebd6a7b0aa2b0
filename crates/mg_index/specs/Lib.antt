-- Definitions.
pub mod Words
pub mod Pairs
-- Lemmas that crates above cite. None of them is part of a statement.
pub mod ListLemmas
pub mod DistinctLemmas
pub mod PlaceLemmas
