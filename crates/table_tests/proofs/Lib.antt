pub mod Sitting
pub mod Walks
