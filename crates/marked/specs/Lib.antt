-- How one term is tested.
pub mod Tests
