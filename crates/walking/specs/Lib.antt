-- Walks one after the other on the lent tables, and what is made of them.
pub mod Walking
pub mod Made
