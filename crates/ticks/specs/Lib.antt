-- What the crate's contracts cite.
pub mod Answers
pub mod Plans
