pub mod Budgets
pub mod Hinting
pub mod Doing
pub mod Storm
pub mod Struck
pub mod Moving
pub mod Shared
pub mod Light
