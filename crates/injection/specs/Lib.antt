-- What Appendix E's forms do to all blocks of a state at once.
pub mod Forms
