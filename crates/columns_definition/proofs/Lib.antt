-- Laws of columns.
pub mod Rows
pub mod Filling
pub mod Dumps
pub mod Words
pub mod Injection
pub mod Products
pub mod Outcomes
pub mod Calls
pub mod Instances
