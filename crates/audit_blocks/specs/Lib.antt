pub mod Edges
pub mod Laws
pub mod Names
pub mod Numbering
pub mod Readers
pub mod Versions
