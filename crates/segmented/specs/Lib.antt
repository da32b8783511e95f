-- What the crate's contracts cite.
pub mod Segments
pub mod Answers
