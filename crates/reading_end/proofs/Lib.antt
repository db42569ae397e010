-- What the proofs of these functions cite, and their callers; these stand beside the functions' names.
pub mod Cleared
pub mod Finished
pub mod Tests
-- a draft that is whole
pub mod Drawn
-- a file laid in cleared tables
pub mod Bare
pub mod Fresh
pub mod Whole
