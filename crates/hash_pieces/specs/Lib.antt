-- What a piece that completes no block alters.
pub mod Short
