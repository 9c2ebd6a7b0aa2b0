-- Definitions, in the order in which one reads them. First what a session keeps, in words for the layers above.
pub mod Sessions
pub mod Parts
pub mod Serving
pub mod Counting
-- What the parts of a session do.
pub mod Machines
pub mod Incoming
pub mod Waiting
pub mod Readings
