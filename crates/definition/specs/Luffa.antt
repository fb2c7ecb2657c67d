-- Luffa's output, and the four digests as uses of it: sections 3.3 and 5, Tables 1 and 3 of the source, under document 01's codes 1 = 224 bits,
-- 2 = 256, 3 = 384, 4 = 512.
-- A table has an entry first that stands for no code.
use Rattle.std.specs.Prelude.{ℕ, ◌*◌, ◌^◌, List, [], ◌∷◌, get_or}
use Rattle.definition.specs.declared.Block.{Block}
use Rattle.definition.specs.Word.{bytes_of_all}
use Rattle.definition.specs.Width.{width_at}
use Rattle.definition.specs.Round.{chain}
use Rattle.definition.specs.Padding.{padded_bits, bytes_in, bits_of, blocks}
use Rattle.definition.specs.Start.{start}
use Rattle.definition.specs.Final.{final}

-- Table 3: the words of the digest at a code
unfoldable pub words_at : ℕ → ℕ
words_at code = get_or (0 ∷ 7 ∷ 8 ∷ 12 ∷ 16 ∷ []) code 0

unfoldable pub bytes_at : ℕ → ℕ
bytes_at code = 4 * words_at code

-- Table 1: a message has fewer bits than this at a code
unfoldable pub limit_at : ℕ → ℕ
limit_at code = get_or (2 ^ 64 ∷ 2 ^ 64 ∷ 2 ^ 64 ∷ []) code (2 ^ 128)

-- 3.3 and 5: the output of a number of words, as bytes, from the state after all blocks of a message
unfoldable pub output_of : (code words : ℕ) → List Block → List ℕ
output_of code words h = bytes_of_all (final (width_at code) words h)

-- of a message whose last bits are x, from the state after the blocks before them: x is padded, and the final stage follows
unfoldable pub output_of_bits : (code words : ℕ) → List Block → (x : List ℕ) → List ℕ
output_of_bits code words h x = output_of code words (chain (width_at code) h (blocks (bytes_in (padded_bits x))))

-- Luffa's output of a bit string
unfoldable pub luffa_output : (code words : ℕ) → List ℕ → List ℕ
luffa_output code words m = output_of_bits code words (start (width_at code)) m

-- document 02, Q-2: "The four digests become uses of it"; Luffa of a bit string
unfoldable pub luffa_of_bits : (code : ℕ) → List ℕ → List ℕ
luffa_of_bits code m = luffa_output code (words_at code) m

-- and of a message of whole bytes, whose last bytes are x
unfoldable pub digest_after : (code : ℕ) → List Block → (x : List ℕ) → List ℕ
digest_after code h x = output_of_bits code (words_at code) h (bits_of x)

unfoldable pub luffa : (code : ℕ) → List ℕ → List ℕ
luffa code m = luffa_of_bits code (bits_of m)
