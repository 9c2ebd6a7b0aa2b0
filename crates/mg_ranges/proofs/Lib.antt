mod Lists
mod Spans
mod Cuts
mod Kept
mod Fits
mod Lowest
