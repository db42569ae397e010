-- What crosses the boundary.
pub mod Answers
