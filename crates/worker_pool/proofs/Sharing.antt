-- Why a run never falls short of turns that are enough: each part of a turn is charged as that of one worker among others.
pub mod Actors
pub mod Beginning
pub mod Ending
pub mod Hints
pub mod Looking
pub mod Serving
pub mod Tables
pub mod Tasks
