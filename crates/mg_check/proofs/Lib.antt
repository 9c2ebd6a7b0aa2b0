pub mod Counted
pub mod RunsAtHand
