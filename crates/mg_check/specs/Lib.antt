-- Definitions, in the order in which one reads them. First what a layer above learns, beside `RowsRead` of mg_rules.
pub mod Summaries
-- What was read.
pub mod Reads
-- Lemmas that crates above cite. None of them is part of a statement.
pub mod ReadRuns
