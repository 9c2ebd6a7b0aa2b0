pub mod Asked
pub mod Counted
pub mod Numbers
pub mod Passwords
pub mod Rows
pub mod Spelled
pub mod Tallied
pub mod Told
