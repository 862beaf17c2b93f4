pub mod Laws
pub mod Lookups
pub mod Meant
pub mod Orders
pub mod Ports
pub mod Reached
pub mod Refusing
