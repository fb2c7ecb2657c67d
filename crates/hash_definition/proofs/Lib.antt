-- Laws of the hash record and of its calls: their orders of refusals, and demand 2, over bytes and over a lent working state.
pub mod Refused
pub mod Orders
pub mod Takes
pub mod Zeros
pub mod Feeding
pub mod Ending
pub mod Formed
pub mod Records
pub mod Working
pub mod WorkingDemand2
pub mod AnyRecord
pub mod Demand2
pub mod Output
pub mod Determined
pub mod Instances
