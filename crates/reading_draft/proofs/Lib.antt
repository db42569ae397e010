-- What the proof of the function cites; it stands beside the function's name.
pub mod Numbers
