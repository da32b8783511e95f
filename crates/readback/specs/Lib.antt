-- What is claimed of the texts that plate prints.
pub mod Before
pub mod Claims
pub mod Quoted
pub mod Examples
