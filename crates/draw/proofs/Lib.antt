-- What is shown of the definitions of specs/, and belongs to no one function.
pub mod Laws
pub mod Evens
