pub mod Laws
pub mod Backing
pub mod Costs
pub mod Scripts
