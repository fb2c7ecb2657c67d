-- Laws of mending.
pub mod Computed
pub mod Replaced
pub mod Found
pub mod Outcomes
pub mod Opened
pub mod Examples
pub mod Instances
