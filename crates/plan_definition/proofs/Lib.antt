-- Laws of the plan's definitions, which the crates above cite, and examples that the checker computes.
pub mod Some
pub mod Exactly
pub mod Kept
pub mod Struck
pub mod Ranked
pub mod Links
pub mod Given
pub mod Places
pub mod Listed
pub mod Faults
pub mod Verdicts
pub mod Tested
pub mod Elsewhere
pub mod Determined
pub mod Computed
pub mod Examples
pub mod Instances
