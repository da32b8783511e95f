-- What the crate's proofs share, and its callers' may cite.
pub mod Axes
pub mod Questions
pub mod Checked
pub mod PixelRanges
pub mod UsualAxes
pub mod ClosedAxes
