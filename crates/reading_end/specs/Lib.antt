-- What the ends of a reading do to the lent tables, call by call, and what they ask.
pub mod Tests
pub mod Bare
pub mod Clearing
pub mod Finishing
pub mod Laid
pub mod Drawn
