-- What the disk in a file shows.
pub mod Blocks
