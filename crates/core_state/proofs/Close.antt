-- Rule 5: closing a notify word.
pub mod View
pub mod Parts
pub mod GivenUp
pub mod Keeps
