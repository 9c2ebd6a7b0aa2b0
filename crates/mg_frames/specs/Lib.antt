-- A definition.
pub mod Words
-- Lemmas that crates above cite. None of them is part of a statement.
pub mod Distinct
pub mod Places
