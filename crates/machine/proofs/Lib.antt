-- That what the code does to the tables is what is written, bottom up.
pub mod Xor
pub mod Clause
-- one clause: its standing, its place, and a step on it
pub mod Status
pub mod Placed
pub mod Fronts
pub mod Steps
pub mod Mid
pub mod Touch
-- a flip, and a flip list
pub mod Pass
pub mod Turned
pub mod Flipped
pub mod Counts
pub mod Standings
pub mod Law
-- loops and calls
pub mod Rows
pub mod Runs
pub mod Scanned
pub mod Rewritten
pub mod Sizes
pub mod Calls
-- opening and closing, and counting afresh
pub mod Opened
pub mod Counted
pub mod Recounted
-- the tables that are written for a state
pub mod Begins
pub mod Laid
pub mod Held
pub mod Settled
pub mod Tallied
-- judging
pub mod Cuts
pub mod Slots
pub mod Occurrences
pub mod Tested
pub mod Ones
pub mod File
pub mod Rest
-- turning round
pub mod Cleared
-- tables that agree, and a flip list on them
pub mod Agreed
