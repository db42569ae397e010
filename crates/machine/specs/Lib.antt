-- What the code does to the lent tables, operation by operation, and what it means that tables hold a written state.
pub mod Literals
pub mod Uncovered
pub mod Tallies
pub mod Moving
pub mod Passes
pub mod Holds
pub mod Lent
pub mod Judging
pub mod Cuts
pub mod Tested
pub mod Filling
pub mod Slots
