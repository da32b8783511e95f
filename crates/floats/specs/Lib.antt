-- What the crate's contracts and laws cite.
pub mod Rounding
pub mod Losses
