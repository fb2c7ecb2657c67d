-- Laws that several of this crate's proofs use.
pub mod Rows
pub mod Sends
pub mod Found
pub mod Columns
pub mod Alone
pub mod Cut
