-- A core with nothing pending is finished, and its lists are lawful.
pub mod Active
pub mod Quiet
pub mod Lists
pub mod Grounded
pub mod Causes
pub mod NoFault
