-- Definitions, in the order in which one reads them. First what a layer above learns: the rows of an image.
pub mod RowsRead
-- The rules between rows.
pub mod Spans
pub mod Rules
pub mod Tables
-- What each table of an image spells, which rows are live, and what all of them say of the image.
pub mod TableTold
pub mod TableRows
pub mod RowsTold
pub mod Settled
-- Lemmas that crates above cite. None of them is part of a statement.
pub mod EntryLemmas
pub mod GapLemmas
pub mod LiveRowLemmas
pub mod LiveTableLemmas
pub mod NoRowLemmas
pub mod ObjectOrderLemmas
pub mod PlacedLemmas
pub mod SettledVolumeLemmas
pub mod ToldLemmas
