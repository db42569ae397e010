-- What a literal comes to, and what the tables of a reading hold between two literals.
pub mod Line
pub mod Taking
