pub mod Seat
pub mod Serving
pub mod Kinds
pub mod Table
