-- The generator of the step constants, applied again and again.
pub mod Turns
