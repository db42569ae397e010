-- The functions' proofs stand beside their names; below them the laws that only they cite. What others cite too is in machine.
pub mod MarksTested
