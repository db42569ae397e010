-- What lent tables hold of a draft, and what a token and a text do to it.
pub mod Drafting
pub mod Turns
