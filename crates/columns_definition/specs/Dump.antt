-- A state dumped by columns, and read back: document 02, Q-12, "32 positions, one byte for each block".
use Rattle.std.specs.Prelude.{ℕ, zero, suc, ◌+◌, ◌*◌, List, [], ◌∷◌, ◌++◌, map, get_or, take, drop}
use Rattle.definition.specs.declared.Block.{Block}
use Rattle.definition.specs.Word.{bit, from_bits}
use Rattle.definition.specs.Block.{block_from}
use Rattle.definition.specs.Field.{element}

-- f 0, f 1 and so on, n of them
unfoldable pub up_to {ℓ} : {A : Type ℓ} → ℕ → (ℕ → A) → List A
up_to zero f = []
up_to (suc n) f = up_to n f ++ f n ∷ []

-- lists f 0, f 1 and so on, n of them, one after the other
unfoldable pub rows_to : ℕ → (ℕ → List ℕ) → List ℕ
rows_to zero f = []
rows_to (suc n) f = rows_to n f ++ f n

-- "its bit k is bit l of word k": the byte of a block at position l is its element there (3.2 of the source); the bytes of all blocks
unfoldable pub column : (l : ℕ) → List Block → List ℕ
column l h = map (element l) h

-- "Byte w*l + j, with l from 0 to 31, is for block j"; "a message block is dumped as 32 such bytes": of one block, byte l
unfoldable pub dump : List Block → List ℕ
dump h = rows_to 32 (λ l. column l h)

-- the same read back: bit l of word k of block j is bit k of byte w*l + j, for l below n; all 32
unfoldable pub block_to : (n w j : ℕ) → (bytes : List ℕ) → Block
block_to n w j d =
    record {
      a0 = from_bits n (λ l. bit 0 (get_or d (w * l + j) 0));
      a1 = from_bits n (λ l. bit 1 (get_or d (w * l + j) 0));
      a2 = from_bits n (λ l. bit 2 (get_or d (w * l + j) 0));
      a3 = from_bits n (λ l. bit 3 (get_or d (w * l + j) 0));
      a4 = from_bits n (λ l. bit 4 (get_or d (w * l + j) 0));
      a5 = from_bits n (λ l. bit 5 (get_or d (w * l + j) 0));
      a6 = from_bits n (λ l. bit 6 (get_or d (w * l + j) 0));
      a7 = from_bits n (λ l. bit 7 (get_or d (w * l + j) 0));
    }

unfoldable pub block_at : (w j : ℕ) → (bytes : List ℕ) → Block
block_at = block_to 32

unfoldable pub undump : (w : ℕ) → (bytes : List ℕ) → List Block
undump w d = up_to w (λ j. block_at w j d)

-- 2.3 of the source: the w blocks of the 8w words of a state, eight words each
unfoldable pub blocks_of : (w : ℕ) → (words : List ℕ) → List Block
blocks_of w ws = up_to w (λ j. block_from (drop (8 * j) ws))

-- the w bytes at position l of a dump
unfoldable pub column_at : (w l : ℕ) → (bytes : List ℕ) → List ℕ
column_at w l d = take w (drop (w * l) d)
