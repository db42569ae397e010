-- What numbers lead to, by the place of a draft, and what the lent tables then hold.
pub mod Passes
pub mod Counting
