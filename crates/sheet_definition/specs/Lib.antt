-- The sheet, its marks, the calls over them and runs of calls, as documents 01 and 02 define them, in the order in which to read them; Said has
-- the words of what is proved.
pub mod Sheet
pub mod Struck
pub mod Marks
pub mod Refusals
pub mod Own
pub mod Save
pub mod SheetCalls
pub mod Run
pub mod Turns
pub mod Said
