pub mod Loads
pub mod Stored
pub mod RepliesTold
pub mod Spelled
pub mod Brings
