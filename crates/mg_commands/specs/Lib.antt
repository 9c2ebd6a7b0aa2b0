-- Definitions, in the order in which one reads them. First what the top call promises.
pub mod Commands
pub mod Headline
pub mod History
-- What words spell, and what a fault of an opening says.
pub mod Forms
pub mod Unopened
-- Lemmas of the crates above.
pub mod OpeningLemmas
pub mod LastLemmas
pub mod DryLemmas
pub mod GeneratedLemmas
pub mod RunLemmas
pub mod HistoryLemmas
