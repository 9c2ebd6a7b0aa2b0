-- What a device answers, and the devices that are attached.
pub mod Devices
pub mod Attached
