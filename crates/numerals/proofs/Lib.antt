-- What the proofs of these functions cite; these stand beside the functions' names.
pub mod Gaps
pub mod Headers
pub mod Runs
pub mod Words
