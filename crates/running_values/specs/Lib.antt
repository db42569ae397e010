-- The competition's lines by the value words that stand in the tables.
pub mod Valuing
