mod Ended
mod Made
pub mod Owned
