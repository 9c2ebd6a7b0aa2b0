-- Definitions, in the order in which one reads them: the lines of a generated run, and the summary of the replies to them.
-- `Asked` and `Tallies` say the same by calls and by rows, as the code makes them.
pub mod Generated
pub mod Summary
pub mod Asked
pub mod Tallies
