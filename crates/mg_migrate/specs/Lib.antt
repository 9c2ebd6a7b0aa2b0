-- Definitions, in the order in which one reads them: what a volume of version 1 spells, what it becomes, and what is true of that.
pub mod Layout1
pub mod Spelling1
pub mod Version1
pub mod Lifted
pub mod Laws
pub mod Fresh1
-- What the code answers, and what it does to a row's bytes.
pub mod Super1
pub mod Widened
-- What is read of one and copied.
pub mod LiftedView
pub mod OldRead
pub mod Copied
pub mod Migrated
-- Lemmas that crates above cite.
pub mod MigratedLemmas
