-- Definitions, in the order in which one reads them: the words of a line, the item of a line, what a text assembles to, and how
-- words are printed; then the text of a fault, what a list of words is read as, words as lines of calls, and what a map of labels
-- holds.
pub mod Tokens
pub mod Reading
pub mod Assembled
pub mod Printed
pub mod FaultText
pub mod Listed
pub mod Stored
pub mod Labels
-- Lemmas that a crate above cites.
pub mod CutLemmas
pub mod LineLemmas
