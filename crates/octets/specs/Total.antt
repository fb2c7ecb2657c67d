-- What a helper does where a slice is too short: zero is read, and nothing is written. So its callers owe it no bound.
use Rattle.std.specs.Prelude.{ℕ, ◌+◌, Bool, true, false, List, leb, length}
use Rattle.definition.specs.declared.Block.{Block}
use Rattle.definition.specs.Block.{zero_block, word_at, block_of}
use Rattle.definition.specs.Buffer.{overwrite_at}

-- the first 32 bytes where there are as many, else zero
unfoldable pub block_when : Bool → List ℕ → Block
block_when true x = block_of x
block_when false x = zero_block

unfoldable pub first_block : List ℕ → Block
first_block x = block_when (leb 32 (length x)) x

-- the first word where there are four bytes, else zero
unfoldable pub word_when : Bool → List ℕ → ℕ
word_when true x = word_at x 0
word_when false x = 0

unfoldable pub first_word : List ℕ → ℕ
first_word x = word_when (leb 4 (length x)) x

-- p written from place i on where there is room for it whole, else nothing
unfoldable pub write_when : Bool → ℕ → List ℕ → List ℕ → List ℕ
write_when true i p l = overwrite_at i p l
write_when false i p l = l

unfoldable pub write_at : ℕ → List ℕ → List ℕ → List ℕ
write_at i p l = write_when (leb (i + length p) (length l)) i p l
