-- Definitions, in the order in which one reads them.
pub mod SuperBlock
pub mod FreshImage
pub mod FreshBelow
pub mod MayFormat
pub mod Small
pub mod Laws
-- Lemmas that crates above cite. They are part of no statement.
pub mod GateLemmas
