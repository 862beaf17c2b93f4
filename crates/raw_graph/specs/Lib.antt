pub mod Graph
pub mod Limits
