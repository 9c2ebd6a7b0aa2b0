-- Definitions, in the order in which one reads them: what a mirror gives, its sides in each call, its counts, what a copy of one disk
-- on another leaves, and what opening gives.
pub mod Mirror
pub mod Sides
pub mod Opened
pub mod Copy
pub mod Opens
-- Lemmas that the disk of a mirror has to show.
pub mod MirrorLemmas
pub mod MomentLemmas
