-- What it means that a statement settles the outcome of a call.
pub mod Outcomes
