-- One walk on the lent tables: its start and its steps, and the written moments that they follow.
pub mod Stepping
pub mod Following
