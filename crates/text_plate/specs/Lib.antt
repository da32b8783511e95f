-- What the crate's contracts cite.
pub mod Plate
pub mod Turns
pub mod Run
