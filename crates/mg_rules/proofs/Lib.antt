pub mod Apart
pub mod Covered
pub mod ObjectOrder
pub mod StateFits
