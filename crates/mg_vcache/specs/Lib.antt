-- Definitions.
pub mod Seats
pub mod EndedSeats
pub mod Drops
pub mod Marks
-- Lemmas that crates above cite. None of them is part of a statement.
pub mod SeatLemmas
