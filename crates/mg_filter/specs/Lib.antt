-- What is taken of a source, the statuses, the line of a fault, and what is kept if the words spell no command.
pub mod Whole
pub mod Statuses
pub mod FaultLines
pub mod Usages
