-- The set of well numbers as a table of bits.
pub mod Numbers
