-- The laws of the tables of house rules.
pub mod Some
pub mod Lengths
pub mod Reading
pub mod Judged
