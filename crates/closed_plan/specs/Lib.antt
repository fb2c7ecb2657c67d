-- What closing up leaves of a plan, over the sheet's calls and what its records mean.
pub mod Closed
