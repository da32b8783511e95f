-- What the crate's contracts and promises cite.
pub mod Position
pub mod Hairlines
pub mod Mapping
pub mod Days
pub mod Drawn
