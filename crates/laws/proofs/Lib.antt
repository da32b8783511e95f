-- The lemmas that all proofs share.
pub mod Signed
pub mod Halves
pub mod Lent
pub mod Tables
pub mod Tests
pub mod Quotients
