-- Who depends on a well, as document 02 defines it in Q-10.
pub mod Chain
pub mod Reach
