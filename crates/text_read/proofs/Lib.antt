-- Laws of the fields' definitions.
pub mod Fields
pub mod Lines
pub mod Parts
