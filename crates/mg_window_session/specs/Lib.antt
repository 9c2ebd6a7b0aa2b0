-- What the words spell, the machine with devices, and what is promised; then how a session proceeds.
pub mod Commands
pub mod Machine
pub mod Headline
pub mod History
pub mod DeviceKernels
pub mod Stepping
