-- What the functions that make a number of a word promise.
pub mod Numbers
