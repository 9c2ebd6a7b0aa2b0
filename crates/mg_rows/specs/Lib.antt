-- Definitions, in the order in which one reads them: a reader's answer as what the definitions read, and what a place of a
-- block spells.
pub mod Answers
pub mod Blocks
pub mod Laws
-- The parts of a row, for a reader.
pub mod ObjectParts
pub mod ThreadParts
