-- Laws of the generator in the steps, and of the lanes.
pub mod Generator
pub mod Lanes
