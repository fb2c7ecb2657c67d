pub mod Admission
pub mod Answered
