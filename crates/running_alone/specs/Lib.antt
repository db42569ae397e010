-- What is seen of a program's input, and what is shown for it.
pub mod Seeing
