-- What one reading of a record finds, and what is written into it.
pub mod Reading
