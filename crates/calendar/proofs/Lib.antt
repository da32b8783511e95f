-- Laws of the calendar's definitions.
pub mod Formulas
pub mod Dates
pub mod Questions
