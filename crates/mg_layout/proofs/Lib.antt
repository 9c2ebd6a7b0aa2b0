pub mod BlocksBelow
pub mod ChangedImages
pub mod FormatSteps
pub mod FreshBlocks
pub mod FreshVolume
