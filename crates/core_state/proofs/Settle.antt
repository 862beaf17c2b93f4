-- Finished items leave, the end of each event.
pub mod View
pub mod Keeps
