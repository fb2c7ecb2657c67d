-- Blocks of eight words: sections 2.2 and 2.3 of the source, and their XOR, 2.1.2 and 3.3. The struct itself stands in src/, so that code
-- and definitions share it.
use Rattle.std.specs.Prelude.{ℕ, ◌+◌, ◌*◌, List, [], ◌∷◌, ◌++◌, get_or}
use Rattle.std.specs.Int.Bits.{bit_xor}
use Rattle.definition.specs.declared.Block.{Block}
use Rattle.definition.specs.Word.{word_of}

-- 3.3: the block of zeros, 0x00..0
abbrev pub zero_block : Block
zero_block = record { a0 = 0; a1 = 0; a2 = 0; a3 = 0; a4 = 0; a5 = 0; a6 = 0; a7 = 0 }

-- 2.1.2: XOR of two blocks, word by word
infixl 60 ◌⊕◌
unfoldable pub ◌⊕◌ : Block → Block → Block
a ⊕ b =
    record {
      a0 = bit_xor a.a0 b.a0;
      a1 = bit_xor a.a1 b.a1;
      a2 = bit_xor a.a2 b.a2;
      a3 = bit_xor a.a3 b.a3;
      a4 = bit_xor a.a4 b.a4;
      a5 = bit_xor a.a5 b.a5;
      a6 = bit_xor a.a6 b.a6;
      a7 = bit_xor a.a7 b.a7;
    }

-- 3.3: XOR of all blocks of a list, ⊕ over j
unfoldable pub xor_all : List Block → Block
xor_all [] = zero_block
xor_all (b ∷ bs) = b ⊕ xor_all bs

-- 2.2: the words of a block in order
unfoldable pub words_of : Block → List ℕ
words_of b = b.a0 ∷ b.a1 ∷ b.a2 ∷ b.a3 ∷ b.a4 ∷ b.a5 ∷ b.a6 ∷ b.a7 ∷ []

-- 2.3: the 8w words of a state, one block after the other
unfoldable pub words_of_all : List Block → List ℕ
words_of_all [] = []
words_of_all (b ∷ bs) = words_of b ++ words_of_all bs

-- 2.2: the first eight words as a block
unfoldable pub block_from : List ℕ → Block
block_from ws =
    record {
      a0 = get_or ws 0 0;
      a1 = get_or ws 1 0;
      a2 = get_or ws 2 0;
      a3 = get_or ws 3 0;
      a4 = get_or ws 4 0;
      a5 = get_or ws 5 0;
      a6 = get_or ws 6 0;
      a7 = get_or ws 7 0;
    }

-- 2.2: word k of a string of bytes, x_4k || x_4k+1 || x_4k+2 || x_4k+3
unfoldable pub word_at : List ℕ → ℕ → ℕ
word_at x k = word_of (get_or x (4 * k) 0) (get_or x (4 * k + 1) 0) (get_or x (4 * k + 2) 0) (get_or x (4 * k + 3) 0)

-- 2.2: the first 32 bytes as a block
unfoldable pub block_of : List ℕ → Block
block_of x =
    record {
      a0 = word_at x 0;
      a1 = word_at x 1;
      a2 = word_at x 2;
      a3 = word_at x 3;
      a4 = word_at x 4;
      a5 = word_at x 5;
      a6 = word_at x 6;
      a7 = word_at x 7;
    }
