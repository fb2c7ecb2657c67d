-- What is sent to the places of a sheet, and the table in which these are found.
pub mod Stated
pub mod Sent
pub mod Table
