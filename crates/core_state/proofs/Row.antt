-- Claiming a row and looking at one.
pub mod View
pub mod Made
pub mod MadeRest
pub mod Look
pub mod Keeps
