-- The functions' proofs stand beside their names; below them the laws that only they cite.
pub mod Laws
