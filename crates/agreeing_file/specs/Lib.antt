-- How the code tests the file that the tables hold: its clauses by marks, and its occurrences clause by clause.
pub mod Marks
pub mod Matching
