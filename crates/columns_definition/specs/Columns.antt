-- Injection by columns, and the four calls: document 02, Q-12. An outcome is the answer's number and, at the end, the buffer that is lent for
-- writing.
use Rattle.std.specs.Prelude.{ℕ, ◌*◌, not, ◌||◌, List, [], ◌∷◌, ◌++◌, map, eqb, length, get_or}
use Rattle.std.specs.Int.Bits.{bit_xor}
use Rattle.definition.specs.declared.Width.{Width}
use Rattle.definition.specs.Block.{block_of, words_of_all}
use Rattle.definition.specs.Field.{product}
use Rattle.definition.specs.Injection.{matrix}
use Rattle.definition.specs.Width.{width_at, block_count}
use Rattle.definition.specs.Refusal.{Refusal, COLUMNS, width_refusal}
use Rattle.hash_definition.specs.Calls.{Outcome, outcome}
use Rattle.columns_definition.specs.Dump.{rows_to, dump, undump, blocks_of, column_at}

-- a row of a matrix times a column of elements
unfoldable pub row_sum : List ℕ → List ℕ → ℕ
row_sum [] es = 0
row_sum (c ∷ cs) [] = 0
row_sum (c ∷ cs) (e ∷ es) = bit_xor (product c e) (row_sum cs es)

-- 3.2.1 to 3.2.3 of the source at one position: the bytes of H_0 to H_w-1 and that of M
unfoldable pub inject_column : Width → List ℕ → (m : ℕ) → List ℕ
inject_column w es m = map (λ cs. row_sum cs (es ++ m ∷ [])) (matrix w)

-- "Supply injection in that form": at each of the 32 positions
unfoldable pub inject_dump : Width → (bytes message : List ℕ) → List ℕ
inject_dump w d m = rows_to 32 (λ l. inject_column w (column_at (block_count w) l d) (get_or m l 0))

-- w at a code
unfoldable pub blocks_at : (code : ℕ) → ℕ
blocks_at code = block_count (width_at code)

-- "24 COLUMNS (a state dump, read or written, not 32w bytes, a message dump not 32 bytes, or words lent for conversion not 8w)": one of two
-- lengths isn't what is due
unfoldable pub columns_refusal : (length-1 due-1 length-2 due-2 : ℕ) → Refusal
columns_refusal a due-a b due-b = (COLUMNS, not (eqb a due-a) || not (eqb b due-b))

-- "1; 24 COLUMNS .., after it": of a state dump and of words, or of a message dump
unfoldable pub words_refusals : (code dump_length words_length : ℕ) → List Refusal
words_refusals code d n = width_refusal code ∷ columns_refusal d (32 * blocks_at code) n (8 * blocks_at code) ∷ []

unfoldable pub inject_refusals : (code dump_length message_length : ℕ) → List Refusal
inject_refusals code d m = width_refusal code ∷ columns_refusal d (32 * blocks_at code) m 32 ∷ []

-- a block and its dump, which have no code
unfoldable pub message_refusals : (block_length dump_length : ℕ) → List Refusal
message_refusals b d = columns_refusal b 32 d 32 ∷ []

-- "Conversion of a state there and back": words to a dump, a dump to words
unfoldable pub from_words_outcome : (code : ℕ) → (words bytes : List ℕ) → Outcome
from_words_outcome code ws d = outcome (words_refusals code (length d) (length ws)) (dump (blocks_of (blocks_at code) ws)) d

unfoldable pub to_words_outcome : (code : ℕ) → (bytes words : List ℕ) → Outcome
to_words_outcome code d ws = outcome (words_refusals code (length d) (length ws)) (words_of_all (undump (blocks_at code) d)) ws

-- "a message block is dumped as 32 such bytes"; its words are read high byte first, as 2.2 has it
unfoldable pub from_message_outcome : (block bytes : List ℕ) → Outcome
from_message_outcome block d = outcome (message_refusals (length block) (length d)) (dump (block_of block ∷ [])) d

-- injection in place on the state dump
unfoldable pub inject_outcome : (code : ℕ) → (bytes message : List ℕ) → Outcome
inject_outcome code d m = outcome (inject_refusals code (length d) (length m)) (inject_dump (width_at code) d m) d
