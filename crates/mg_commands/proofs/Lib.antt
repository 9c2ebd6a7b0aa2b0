mod Seed
mod Spelled
mod Summed
