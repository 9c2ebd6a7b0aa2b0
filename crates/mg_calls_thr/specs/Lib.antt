-- Definitions.
pub mod Making
pub mod Owning
