-- What the crate's contracts cite.
pub mod Bytes
pub mod Fields
pub mod Lines
