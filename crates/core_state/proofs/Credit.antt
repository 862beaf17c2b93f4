-- Credits, stop, and loads of pending and stop; posting and taking a job.
pub mod Keeps
pub mod JobView
pub mod JobParts
pub mod Jobs
