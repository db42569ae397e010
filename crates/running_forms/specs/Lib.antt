-- The lines of an answer by the form of the text and the tables that it leaves.
pub mod Reporting
