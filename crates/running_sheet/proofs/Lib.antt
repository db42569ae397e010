-- The functions' proofs stand beside their names; here what they lean on.
pub mod Lines
pub mod Reached
pub mod Fifth
