-- Laws that the exports share.
pub mod Axes
pub mod Counts
