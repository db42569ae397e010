-- What the proofs of these functions cite beside the laws of machine; they stand beside the functions' names.
pub mod Picking
