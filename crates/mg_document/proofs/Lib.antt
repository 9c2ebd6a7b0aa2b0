pub mod Cuts
pub mod Packs
pub mod Grown
pub mod Steps
