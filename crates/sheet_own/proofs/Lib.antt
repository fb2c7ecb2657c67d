-- Laws that the saves with a planner's own marks stand on.
pub mod Told
pub mod Marks
pub mod Judged
pub mod Placed
