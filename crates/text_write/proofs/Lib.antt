-- The lemmas that the proofs share.
pub mod Writing
pub mod Spans
