-- What stands on the tables follows the written moments, and a start, a step and a walk are put together from their calls; the functions' proofs
-- stand beside their names. Assumes nothing.
pub mod Held
pub mod Plain
pub mod Starts
pub mod Picking
pub mod Steps
pub mod Onward
pub mod Calls
pub mod Loop
