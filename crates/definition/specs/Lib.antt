-- Luffa 2.0.1 as the source defines it, a file for each part, each after those that it uses: words and blocks (2), the widths (Table 2), the
-- injection (3.2), the permutation (4), the round (3.2), padding (3.1), start (A), finalization (3.3) and the digests (Table 3); then what
-- the appendices say of the same. After them what every call's definition rests on, and the source doesn't have: the code's state, counts,
-- buffers and refusals.
pub mod Word
pub mod Block
pub mod Width
pub mod Field
pub mod Injection
pub mod SubCrumb
pub mod MixWord
pub mod Constant
pub mod Permutation
pub mod Round
pub mod Padding
pub mod Start
pub mod Final
pub mod Luffa
pub mod AppendixB
pub mod AppendixD
pub mod AppendixE
pub mod State
pub mod Counted
pub mod Buffer
pub mod Refusal
