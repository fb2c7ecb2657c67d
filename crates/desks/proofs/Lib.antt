-- Laws of two desks.
pub mod Work
pub mod Written
pub mod Desks
pub mod Planners
pub mod Instances
pub mod Where
