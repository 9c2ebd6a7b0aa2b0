-- What the parts of a session do.
pub mod Generating
pub mod Serving
