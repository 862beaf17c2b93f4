pub mod Answers
pub mod Checks
pub mod Content
pub mod Faults
pub mod Format
pub mod Names
pub mod Shown
pub mod Written
