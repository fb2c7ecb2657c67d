-- The parts in which a well is held to the rules.
pub mod Parts
