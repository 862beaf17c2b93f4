pub mod Hits
pub mod Index
pub mod Members
pub mod Pieces
pub mod Serials
