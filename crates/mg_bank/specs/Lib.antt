-- Definitions.
pub mod Bank
pub mod Refusals
-- Lemmas on accounts that crates above cite. None of them is part of a statement.
pub mod AccountLemmas
