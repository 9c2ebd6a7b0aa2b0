mod Allowed
mod Apart
mod Entries
mod Found
mod Reached
mod StandingFacts
mod Tried
