-- What the crate's contracts cite.
pub mod Ladders
pub mod Periods
