-- Definitions, in the order in which one reads them. First what a layer above sees.
pub mod Held
pub mod Meaning
pub mod Pairs
pub mod Opening
pub mod Staging
pub mod Calls
-- What the parts of this crate do.
pub mod RowLists
pub mod Changes
pub mod StagesAccounts
pub mod StagesRows
pub mod Numbered
pub mod PagesOver
pub mod Sound
pub mod Standing
-- Lemmas that crates above cite, and what these rest on. None of them is part of a statement.
pub mod Contents
pub mod FormedLemmas
pub mod PageWordLemmas
pub mod RangeLemmas
pub mod RunLemmas
pub mod StateLemmas
