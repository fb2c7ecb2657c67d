-- What reading a record gives where the sheet doesn't have it.
pub mod Total
