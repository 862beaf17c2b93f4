pub mod FileGraphs
pub mod Found
pub mod Meaning
pub mod Reaching
pub mod Refusals
pub mod Views
