-- Why turns are enough where lives are replaced.
pub mod Costs
pub mod Growing
pub mod Originating
pub mod Preparing
pub mod Several
pub mod Slots
pub mod Sorts
pub mod Strikes
pub mod Words
