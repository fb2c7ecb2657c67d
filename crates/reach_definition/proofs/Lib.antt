-- Laws of who depends on a well, which the crates above cite, and examples that the checker computes.
pub mod Chains
pub mod Tests
pub mod One
pub mod Outcomes
pub mod Refused
pub mod Marked
pub mod Determined
pub mod Computed
pub mod Examples
pub mod Instances
