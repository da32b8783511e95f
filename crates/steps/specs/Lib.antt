-- What the crate's contracts cite, and the words of demand 3.
pub mod Months
pub mod Progression
pub mod Listing
pub mod Promise
