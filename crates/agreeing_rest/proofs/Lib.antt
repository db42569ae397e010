-- The functions' proofs stand beside their names; most laws they cite are in machine.
pub mod Zeros
