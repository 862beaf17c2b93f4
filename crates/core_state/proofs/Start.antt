-- Rule 1, and the setting: the table at the beginning meets the invariant.
pub mod Root
pub mod Laws
pub mod Setting
pub mod Asked
pub mod Widest
pub mod Rows
pub mod Keeps
