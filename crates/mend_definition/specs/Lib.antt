-- Mending marks, as document 02 defines it in Q-8; Said has the words of what is proved.
pub mod Mend
pub mod Said
