pub mod Kept
pub mod Moments
pub mod Passes
pub mod Ends
