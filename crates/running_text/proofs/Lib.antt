-- What the proofs of these functions cite; these stand beside the functions' names.
pub mod Ends
pub mod Walking
pub mod Readings
