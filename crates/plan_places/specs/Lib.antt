-- The places of wells by their numbers.
pub mod Places
