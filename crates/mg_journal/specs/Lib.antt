-- Definitions, in the order in which one reads them: the contents, what the journal relies on, and what waits.
pub mod Contents
pub mod Places
pub mod Newest
pub mod Looked
pub mod Held
pub mod Standing
pub mod Staged
pub mod Hinted
-- What the parts of a commit and of an opening do.
pub mod Phases
pub mod Applied
pub mod Recovery
-- Lemmas that Standing or crates above cite. None of them is part of a statement.
pub mod JournalLemmas
pub mod ResultLemmas
pub mod SegmentLemmas
pub mod WrittenLemmas
