-- Definitions.
pub mod Gaps
pub mod Kept
