pub mod Blows
mod Flipping
mod Halves
mod Turning
