-- Laws of the text, which the proofs of the functions cite, and what the program prints of a message.
pub mod Digits
pub mod Lines
pub mod Held
pub mod Program
pub mod Examples
