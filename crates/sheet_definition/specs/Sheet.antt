-- The sheet and its numbers: document 01, "Sheet and marks". A sheet is n records of 40 bytes, four to a group of five message blocks; mark m
-- is the state after the first m groups.
use Rattle.std.specs.Prelude.{ℕ, zero, suc, ◌+◌, ◌-◌, ◌*◌, ◌/◌, ◌%◌, List, [], ◌∷◌, take, drop}
use Rattle.definition.specs.Final.{final_rounds}
use Rattle.definition.specs.Luffa.{words_at}

-- a sheet of n records with its marks at a code, in the buffers that are lent: bytes, of which the first 40n count, and words
pub record World : Type 0 where
  pub code : ℕ
  pub n : ℕ
  pub sheet : List ℕ
  pub marks : List ℕ

-- "A sheet is n records of 40 bytes with no header, n from 0 to 1,024."
abbrev pub most : ℕ
most = 1024

abbrev pub record_bytes : ℕ
record_bytes = 40

-- a sheet's bytes as n records
unfoldable pub cut : (n : ℕ) → List ℕ → List (List ℕ)
cut zero l = []
cut (suc n) l = take record_bytes l ∷ cut n (drop record_bytes l)

-- "Group g is records 4g to 4g+3, that is 160 bytes or five message blocks. Mark m is 40 words"
abbrev pub group_bytes : ℕ
group_bytes = 160

abbrev pub mark_words : ℕ
mark_words = 40

-- "Write n = 4q + r.": q, the full groups, and r, the records after them. Place i is in group q at i
unfoldable pub q : ℕ → ℕ
q n = n / 4

unfoldable pub r : ℕ → ℕ
r n = n % 4

-- "N = floor(40n/32) + 1", the message blocks of a padded sheet
unfoldable pub N : ℕ → ℕ
N n = record_bytes * n / 32 + 1

-- F, the rounds of the final stage
unfoldable pub F : (code : ℕ) → ℕ
F code = final_rounds (words_at code)

-- "the new block total, less five for each group before the mark used, plus F": the rounds from mark m to the end of n records
unfoldable pub rounds_from : (code n m : ℕ) → ℕ
rounds_from code n m = N n - 5 * m + F code

-- "Build writes all marks of the sheet; rounds N + F."
unfoldable pub build_rounds : (code n : ℕ) → ℕ
build_rounds code n = N n + F code

-- "The digest of the sheet held is worked out from mark q: r + 1 + F rounds."
unfoldable pub check_rounds : (code n : ℕ) → ℕ
check_rounds code n = r n + 1 + F code
