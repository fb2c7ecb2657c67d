-- Laws of the injection undone.
pub mod Rings
pub mod Parts
