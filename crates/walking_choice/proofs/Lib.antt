-- The functions' proofs stand beside their names.
pub mod Among
pub mod LeastBreaks
pub mod Choices
pub mod Ties
