-- Strikes on words and blocks.
pub mod Next
pub mod Left
pub mod View
pub mod Once
pub mod Missed
pub mod WordContent
pub mod Word
pub mod Descriptor
pub mod Notify
pub mod Block
