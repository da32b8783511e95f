pub mod Answers
pub mod Margins
pub mod Pixels
pub mod Drawn
