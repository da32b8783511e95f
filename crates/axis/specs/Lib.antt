-- What the crate's contracts cite.
pub mod Axes
pub mod Questions
