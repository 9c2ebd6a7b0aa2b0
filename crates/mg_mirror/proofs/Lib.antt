pub mod Copied
pub mod MirrorCalls
mod Found
