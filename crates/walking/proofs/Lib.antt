-- The functions' proofs stand beside their names; here what they lean on.
pub mod Followed
pub mod Loop
pub mod Outcome
