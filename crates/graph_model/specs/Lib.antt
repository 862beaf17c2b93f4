pub mod Edges
pub mod Gathered
pub mod Graph
pub mod Notes
pub mod Plans
pub mod Reaching
pub mod Serial
