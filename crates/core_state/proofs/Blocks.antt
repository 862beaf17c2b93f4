-- Rules 4 and 8: a block is taken, and goes home read or written.
pub mod Take
pub mod AtWork
pub mod Advance
pub mod Home
pub mod Versions
pub mod Computed
pub mod Write
pub mod Blame
pub mod BadInput
pub mod GoodRead
pub mod Read
