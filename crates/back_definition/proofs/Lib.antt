-- Laws of stepping back over a block.
pub mod Words
pub mod Step
pub mod Field
pub mod Equations
pub mod Injection
pub mod Round
pub mod Back
pub mod Records
pub mod Outcomes
pub mod Instances
