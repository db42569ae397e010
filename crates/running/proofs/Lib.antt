-- What the proofs of a run's functions cite; these stand beside the functions' names.
pub mod Courses
