-- Laws that the proofs share, and for callers.
pub mod Places
