pub mod Steps
pub mod Mixed
pub mod Charged
