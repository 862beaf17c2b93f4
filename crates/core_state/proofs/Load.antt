-- Loads of a word of a row.
pub mod SameWord
pub mod Recovery
pub mod DescriptorItems
pub mod Descriptor
pub mod NotifyItems
pub mod Notify
