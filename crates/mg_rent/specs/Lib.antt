-- Definitions.
pub mod Charging
-- Lemmas that crates above cite. None of them is part of a statement.
pub mod PaidLemmas
