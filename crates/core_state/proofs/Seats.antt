-- Ahead of its use: cutting and joining seats. No contract rests on it yet.
pub mod Parts
pub mod View
pub mod Keeps
pub mod Shares
pub mod Lists
