-- What the crate's contracts cite.
pub mod Days
pub mod Weeks
pub mod Months
pub mod Times
pub mod Plans
