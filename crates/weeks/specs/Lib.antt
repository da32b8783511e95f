-- What the crate's contracts cite.
pub mod Weeks
pub mod Questions
