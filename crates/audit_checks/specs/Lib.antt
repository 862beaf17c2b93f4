pub mod Accepted
pub mod ByKey
pub mod Counted
pub mod Faults
pub mod Links
pub mod Ports
pub mod Rows
pub mod Tasks
