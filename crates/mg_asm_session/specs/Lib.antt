pub mod Commands
pub mod Headline
