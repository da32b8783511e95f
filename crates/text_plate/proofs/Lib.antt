-- The lemmas that the proofs share, and that the turns print plate's output.
pub mod Lines
pub mod Output
pub mod Run
