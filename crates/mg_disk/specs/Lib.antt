-- Definitions, in the order in which one reads them: what a disk promises, and the same in the words of the layers above.
pub mod Disk
pub mod Stops
pub mod Reads
pub mod Calls
-- What the disks of this crate show.
pub mod Blocks
pub mod Memory
pub mod MemoryTurn
pub mod Held
pub mod Fuse
pub use Rattle.mg_faults.specs.Faults
-- Lemmas that these or crates above cite, and a word of theirs. None of them is part of a statement.
pub mod BecomesLemmas
pub mod BlockBytes
pub mod HeldLemmas
pub mod PlaceLemmas
pub mod Runs
