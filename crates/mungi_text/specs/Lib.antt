-- What the program keeps.
pub mod Program
