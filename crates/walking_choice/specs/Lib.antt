-- The literal that is picked in a clause, by the break counts as they stand in a table.
pub mod Choosing
pub mod Examples
