pub mod Parts
pub mod Waiting
pub mod Edges
pub mod Order
pub mod KeyLemmas
pub mod EdgeLists
pub mod Lawful
pub mod Tiles
pub mod Calls
mod OrderPlaces
