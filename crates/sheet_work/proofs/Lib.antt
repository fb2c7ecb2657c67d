pub mod Claims
pub mod Groups
pub mod Admission
