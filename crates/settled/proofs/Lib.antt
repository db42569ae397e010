-- Each public statement settles the outcome of a call.
mod Facts
pub mod Leaves
pub mod Calls
pub mod Inner
pub mod Open
pub mod Own
