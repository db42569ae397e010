-- The functions' proofs stand beside their names; below them the laws that only they cite. What others cite too is in machine.
pub mod Passing
pub mod Marks
pub mod Rooms
pub mod Names
pub mod Matching
pub mod Left
pub mod Matched
pub mod Rising
