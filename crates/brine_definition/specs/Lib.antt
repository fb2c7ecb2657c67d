-- The brine statement over a batch of sheets, as document 02 defines it in Q-3.
pub mod Count
pub mod Page
pub mod Statement
pub mod Said
