-- Definitions of the crate: the word of an instruction, what an instruction requires of the machine, and a turn as a call.
pub mod Encoded
pub mod Actions
pub mod Effects
pub mod Turns
pub mod TurnCosts
-- Lemmas that crates above cite: what is decoded has its registers and is spelled by its word.
pub mod DecodedLemmas
