-- Laws that the proofs share.
pub mod Places
pub mod Altered
