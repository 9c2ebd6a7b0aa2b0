pub mod Commands
pub mod Trips
pub mod Headline
