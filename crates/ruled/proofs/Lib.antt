-- The ruled list is the list of its plan, which can be listed; and what the list is: the days of the unit, none left out.
pub mod Units
pub mod Ruled
pub mod Claims
pub mod Answers
