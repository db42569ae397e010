-- The laws of a draft and of the loop that makes it; the functions' proofs stand beside their names. Assumes nothing.
pub mod Growing
pub mod Held
pub mod Literals
pub mod Tokens
pub mod Loop
