-- Laws of hints, the lists as the Rust has them, demand 3 of every list, that its ticks are values, and laws of the answers.
pub mod Hints
pub mod KeyPoints
pub mod Promise
pub mod Values
pub mod Answers
