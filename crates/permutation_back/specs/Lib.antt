-- The generator of the step constants, backwards.
pub mod Generator
