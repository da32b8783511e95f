-- The lemmas that the proofs share.
pub mod Lists
pub mod Pairs
