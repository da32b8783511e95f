-- What the crate's contracts cite, and what a ruled list is.
pub mod Ruled
pub mod Answers
pub mod Plans
pub mod Claims
