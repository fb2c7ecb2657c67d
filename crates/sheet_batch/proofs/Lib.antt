-- Laws that the code of a batch stands on.
pub mod Places
pub mod Done
