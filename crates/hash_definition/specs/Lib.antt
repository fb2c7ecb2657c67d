-- The kept hash record and the calls over messages, records and lent working states, as document 01 defines them, in the order in which to
-- read them; Said has the words of what is proved.
pub mod Record
pub mod Calls
pub mod Lent
pub mod Output
pub mod Said
