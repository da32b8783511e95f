-- What the crate's contracts cite.
pub mod Unmapping
pub mod Moves
