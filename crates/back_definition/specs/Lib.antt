-- Luffa's round undone, and stepping back over a block: document 02, Q-9, in the order in which to read it.
pub mod Step
pub mod Injection
pub mod Round
pub mod Back
