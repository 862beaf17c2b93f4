pub mod Happening
pub mod Memory
pub mod Owing
pub mod Recovering
pub mod Reentering
pub mod Resting
pub mod Serving
