-- What the words spell, and what is kept.
pub mod Commands
pub mod Headline
-- What a fault says.
pub mod FaultText
