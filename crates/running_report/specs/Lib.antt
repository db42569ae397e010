-- The lines of an answer by the tables that it leaves.
pub mod Reporting
