pub mod Arguments
pub mod Known
pub mod Memory
pub use Rattle.mg_faults.specs.Faults
