-- Two desks that change different wells of one sheet: document 02, Q-13.
pub mod Desks
