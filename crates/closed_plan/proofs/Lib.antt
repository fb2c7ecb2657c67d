-- Closing up leaves the plan that there was.
pub mod Left
pub mod Sound
pub mod Pages
pub mod Closed
pub mod Instances
