-- The definitions that all crates share.
pub mod Numbers
pub mod Units
