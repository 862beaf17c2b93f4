pub mod Cutting
pub mod Joining
pub mod Served
pub mod Serving
pub mod Tells
pub mod Turned
