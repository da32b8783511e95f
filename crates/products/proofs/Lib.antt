-- Laws of products by halves.
pub mod Halves
