-- What the proofs of these functions cite; these stand beside the functions' names.
pub mod Valued
pub mod Lines
pub mod Competed
