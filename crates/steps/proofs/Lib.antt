-- Laws of months, of progressions and their lists, and demand 3's one law.
pub mod Months
pub mod Fitting
pub mod Places
pub mod Pairs
pub mod Fronts
pub mod Order
pub mod Demand
