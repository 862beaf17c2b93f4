-- Rules 2 and 3: spending a place.
pub mod Answer
pub mod View
pub mod Parts
pub mod Keeps
