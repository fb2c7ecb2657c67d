-- What a search holds from one hop to the next.
pub mod Front
pub mod Sets
pub mod Level
