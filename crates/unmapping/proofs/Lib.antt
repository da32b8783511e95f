-- Laws of unmapping.
pub mod DateTimes
pub mod Moves
