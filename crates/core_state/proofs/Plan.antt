-- Records play the plan of strikes.
pub mod Passes
pub mod PassesNone
pub mod PassesEach
pub mod PassesClose
pub mod Passed
pub mod Prevents
pub mod PreventsEach
pub mod Prevented
pub mod Played
pub mod PlayedList
