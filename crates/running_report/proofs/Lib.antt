-- The laws of pages and of what is put into them; the functions' proofs stand beside their names. Assumes nothing.
pub mod Named
pub mod Lines
pub mod Reported
