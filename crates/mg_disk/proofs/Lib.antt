-- Lemmas of this crate alone.
mod BlockByBlock
mod NumberedRuns
mod FewerPut
mod RunSteps
