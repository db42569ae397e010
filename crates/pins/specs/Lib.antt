-- What the tests of a pin and of a lift come to.
pub mod Tests
