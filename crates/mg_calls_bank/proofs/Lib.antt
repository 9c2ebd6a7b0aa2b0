pub mod AccountRows
pub mod RentRow
