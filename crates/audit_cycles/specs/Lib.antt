pub mod Ancestors
pub mod Chains
pub mod Components
pub mod Levels
pub mod Searching
pub mod Work
