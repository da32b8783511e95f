-- The claims, proved.
pub mod Digits
pub mod Forms
pub mod ReadBack
pub mod Lists
pub mod Rows
pub mod Before
pub mod Examples
