pub mod Apart
pub mod Seen
pub mod Summed
