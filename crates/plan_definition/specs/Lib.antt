-- What the records of a sheet mean, and the check of content, as document 02 defines them in Q-1.
pub mod Some
pub mod Well
pub mod Rules
pub mod Sound
pub mod Check
