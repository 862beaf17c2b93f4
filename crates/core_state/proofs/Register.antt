-- Rule 2: registering a port.
pub mod View
pub mod Parts
pub mod Keeps
