mod GeneratedSteps
mod Opened
mod Results
mod Texts
