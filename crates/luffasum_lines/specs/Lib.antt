-- What the digest program prints, as document 01 says it.
pub mod Line
pub mod Text
