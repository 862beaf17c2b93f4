pub mod Hitting
pub mod Landing
pub mod Making
pub mod Points
pub mod Ranking
pub mod Struck
pub mod Turns
