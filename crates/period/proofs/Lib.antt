-- Laws of the ladders and of the period.
pub mod Search
pub mod Exponents
pub mod Climbing
pub mod Fits
pub mod Ladders
pub mod Periods
