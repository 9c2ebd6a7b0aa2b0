mod Answering
mod Asked
mod Lines
mod DeviceSteps
mod LeavingDevices
mod DeviceLines
mod Opened
