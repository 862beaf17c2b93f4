-- Why turns are enough for several workers.
pub mod Balancing
pub mod Beginning
pub mod Closing
pub mod Ending
pub mod Found
pub mod Going
pub mod Growing
pub mod Ledger
pub mod Meeting
pub mod Parts
pub mod Serving
pub mod Shifting
pub mod Shifts
pub mod Tasks
pub mod Topping
pub mod Vain
pub mod Weighing
