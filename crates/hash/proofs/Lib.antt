-- Laws that the proofs of the calls share.
pub mod Message
pub mod Read
pub mod ShortFeed
