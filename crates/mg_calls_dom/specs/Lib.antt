-- Definitions.
pub mod Entering
pub mod Fetching
