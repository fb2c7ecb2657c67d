-- Laws of the generator.
pub mod Turns
