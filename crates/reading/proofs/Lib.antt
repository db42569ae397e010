-- What the proofs of a reading's functions cite; these stand beside the functions' names.
pub mod Texts
pub mod Drafted
pub mod Refused
pub mod Decided
