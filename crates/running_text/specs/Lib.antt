-- A run on lent memory: how it ends, and what each part of it asks.
pub mod Running
