-- Laws of the plans: what the code works out, and what demand 3 asks of each; their ticks are values.
pub mod Cases
pub mod Days
pub mod Weeks
pub mod Months
pub mod Times
pub mod Spans
pub mod Plans
pub mod Promise
pub mod Values
