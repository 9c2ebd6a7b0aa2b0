mod Kept
mod Last
