-- The laws of a line, and the kinds that a word names.
pub mod Lines
pub mod Values
