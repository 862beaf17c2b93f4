pub mod ByKeys
pub mod CycleLaws
pub mod LevelLaws
pub mod LevelSteps
pub mod Searching
pub mod Walking
