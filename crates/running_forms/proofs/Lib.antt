-- What the proofs above these functions cite; those of the functions stand beside their names.
pub mod Reported
