pub mod Meaning
pub mod Opening
pub mod Serving
pub mod Calls
pub mod Unasked
pub mod Stepping
pub mod SteppingLemmas
