-- What the tests of a walk come to.
pub mod Tests
