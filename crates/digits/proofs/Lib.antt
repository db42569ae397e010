-- What the proofs of these functions cite, and of those above them; these stand beside the functions' names.
pub mod Keys
pub mod Digits
