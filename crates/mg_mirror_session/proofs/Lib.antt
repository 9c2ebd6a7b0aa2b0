pub mod Through
pub mod Opening
pub mod FirstFault
pub mod Copying
pub mod Refusing
pub mod RunsOnMirror
pub mod HistorySteps
