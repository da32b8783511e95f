-- What the crate's contracts cite.
pub mod Values
pub mod Differences
