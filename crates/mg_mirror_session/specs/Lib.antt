pub mod Commands
pub mod Mirrored
pub mod Judged
pub mod Headline
pub mod History
-- Words between the calls of the crate. They are part of no promise.
pub mod Ran
