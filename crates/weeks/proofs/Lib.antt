-- The laws that crates above cite.
pub mod Weeks
pub mod Years
pub mod Mondays
pub mod Questions
