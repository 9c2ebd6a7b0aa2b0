mod Entered
mod Fetched
pub mod SlotCalls
mod Words
