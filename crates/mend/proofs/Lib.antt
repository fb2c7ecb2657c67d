-- Laws that the code of mending stands on.
pub mod Upto
