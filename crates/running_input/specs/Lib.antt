-- How a run sets out.
pub mod Outsets
