-- What the tests of a flip list come to, and what is asked where they are not made.
pub mod Tests
