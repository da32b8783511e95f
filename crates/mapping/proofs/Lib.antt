-- Laws of mapping.
pub mod Ranges
pub mod Placing
pub mod Hairlines
pub mod Answers
pub mod SignedCuts
pub mod WholeDays
pub mod Positions
pub mod Days
pub mod Ends
pub mod Drawn
