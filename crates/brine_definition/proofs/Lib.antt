-- Laws of the brine statement's definitions, which the crates above cite, and examples that the checker computes.
pub mod Sums
pub mod Sound
pub mod Bounds
pub mod Conserved
pub mod Spare
pub mod Outcomes
pub mod Totals
pub mod Refused
pub mod Rows
pub mod Figures
pub mod Faulted
pub mod Determined
pub mod Computed
pub mod Examples
pub mod Instances
