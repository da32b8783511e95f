-- What the crate's contracts and laws cite.
pub mod Indices
pub mod Answers
pub mod Walking
