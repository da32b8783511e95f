-- The laws that crates above cite.
pub mod Dates
pub mod Sizes
pub mod Counting
