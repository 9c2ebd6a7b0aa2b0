-- Definitions.
pub mod Space
