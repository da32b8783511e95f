-- The tick lists in the shape of the Rust's own functions, and those of week axes, which it has not.
pub mod Loops
pub mod Dates
pub mod Every
pub mod Weeks
pub mod Months
pub mod Periods
pub mod Times
pub mod KeyPoints
pub mod Hints
pub mod AsDates
