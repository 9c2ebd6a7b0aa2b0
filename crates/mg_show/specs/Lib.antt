-- The text of a state, of who may reach what and of a graph, the words of the command line, and what is promised.
pub mod StateText
pub mod ReachText
pub mod DotText
pub mod DotFrom
pub mod Commands
pub mod Headline
pub mod Writing
pub mod Putting
pub mod Shown
pub mod WordText
pub mod Marking
pub mod Reached
pub mod Walked
pub mod Drawn
pub mod WritingLemmas
