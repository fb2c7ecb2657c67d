-- Laws of the code.
pub mod Sums
pub mod Injecting
