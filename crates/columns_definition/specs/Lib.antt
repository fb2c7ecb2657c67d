-- States and message blocks by columns: document 02, Q-12, in the order in which to read it.
pub mod Dump
pub mod Products
pub mod Columns
