-- The functions' proofs stand beside their names; the laws they cite are here.
pub mod Stamps
pub mod Takes
