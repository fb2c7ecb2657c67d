-- What the contracts name.
pub mod Coefficients
