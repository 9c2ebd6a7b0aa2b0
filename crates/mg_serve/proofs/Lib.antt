mod Answered
mod Cutting
mod Endings
mod IncomingSteps
mod Outcomes
mod PartialLemmas
mod ReadingSteps
mod Results
mod SessionSteps
pub mod NextLines
