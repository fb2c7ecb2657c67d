-- Laws of the code.
pub mod Parts
