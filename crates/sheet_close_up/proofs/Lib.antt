pub mod Walked
pub mod Moved
pub mod Together
