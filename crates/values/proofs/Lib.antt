-- The laws that the crate's proofs share, and that its callers may cite.
pub mod Numbers
pub mod Values
pub mod Fits
pub mod Joining
pub mod Differences
pub mod Order
