-- Laws of the step undone.
pub mod Program
