-- What the invariant says of one view, and of a word that it finds.
pub mod Sure
pub mod Found
pub mod Answers
