-- What the crate's contracts cite, and what a refusal says of a table.
pub mod Rows
pub mod Cover
pub mod Table
pub mod Claims
