-- What the crate's contracts cite.
pub mod Texts
pub mod Rows
