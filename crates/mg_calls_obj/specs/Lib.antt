-- Definitions.
pub mod Door
pub mod Based
pub mod Creating
pub mod Altering
