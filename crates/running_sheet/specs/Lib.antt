-- A line of the order sheet, as the code judges it.
pub mod Lines
