pub mod Stepwise
pub mod Loops
pub mod Numbers
pub mod Back
pub mod Grown
pub mod Called
pub mod Placed
