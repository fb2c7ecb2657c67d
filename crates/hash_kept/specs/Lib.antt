-- What C is answered of a call's `Result`.
pub mod Answer
