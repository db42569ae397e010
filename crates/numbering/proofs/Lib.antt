-- The laws of names and numbers put into tables, and of the loop over them; the functions' proofs stand beside their names. Assumes nothing.
pub mod Names
pub mod Passes
pub mod Loop
pub mod Texts
