-- Every kind of step keeps all of it, in one statement.
pub mod EachEvent
