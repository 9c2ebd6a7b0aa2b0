-- Definitions, in the order in which one reads them: a document's words, the calls that store and load them, the document that replies
-- give, and the text of a fault.
pub mod Documents
pub mod Asked
pub mod Replies
pub mod FaultText
-- Lemmas that a crate above cites.
pub mod EndedLemmas
