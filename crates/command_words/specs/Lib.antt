pub mod Options
pub mod Given
pub mod Spelling
pub mod Numbers
pub mod Meaning
pub mod Building
pub mod Reading
pub mod ByClap
