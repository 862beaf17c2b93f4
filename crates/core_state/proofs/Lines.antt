-- What a seat may rely on of its view after its steps.
pub mod Top
pub mod Local
pub mod Counts
pub mod Ports
pub mod Outcomes
pub mod After
pub mod Leaves
pub mod Learns
pub mod Remembers
pub mod Entries
pub mod Ends
