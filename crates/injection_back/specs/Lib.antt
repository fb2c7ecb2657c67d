-- The parts in which the injection is undone at each w.
pub mod Parts
