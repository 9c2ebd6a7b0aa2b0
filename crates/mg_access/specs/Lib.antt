-- Definitions.
pub mod Searching
pub mod Known
pub mod Finding
pub mod Served
pub mod Backing
-- Lemmas that crates above cite. None of them is part of a statement.
pub mod BackingLemmas
pub mod FindingLemmas
pub mod FoundLemmas
pub mod KnownLemmas
pub mod LineLemmas
pub mod ReachedLemmas
pub mod RefusalLemmas
pub mod ServedLemmas
pub mod ThreadLemmas
pub mod WordLemmas
