-- What the crate's contracts cite.
pub mod Gregorian
pub mod DateTimes
pub mod Questions
