-- The functions' proofs stand beside their names; below them the laws that only they cite. What others cite too is in machine.
pub mod Tallying
pub mod Summing
pub mod Filling
pub mod Rounds
pub mod Rounding
