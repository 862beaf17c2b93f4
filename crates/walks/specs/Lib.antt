pub mod Floyd
pub mod Walks
