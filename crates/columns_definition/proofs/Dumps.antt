-- A dump has each block's bytes where the request says, and conversion loses nothing: blocks are read back from their dump, and any 32w bytes are
-- the dump of what is read from them. Once, over any number of blocks.
-- Assumes nothing.
use mathlib.Core.Path.{◌≡◌, refl, sym, ap, ◌∙◌}
use mathlib.Core.List.{List, [], ◌∷◌, map, map-append}
use Prim.Native.Nat.{ℕ, zero, suc, ◌+◌, ◌*◌, ◌^◌, ◌<◌}
use native.Mathlib.Nat.{mul_comm}
use native.Mathlib.Omega.{arith}
use lib.ListN.{length, get_or, length-map, get_or-map}
use Rattle.definition.specs.declared.Block.{Block}
use Rattle.definition.specs.Word.{bit, from_bits}
use Rattle.definition.specs.Block.{zero_block, words_of}
use Rattle.definition.specs.Field.{element}
use Rattle.definition.proofs.Bits.{bit_lt, bit_of_bits, from_its_bits, from_bits-lt}
use Rattle.definition.proofs.Bounds.{Words, AllWords}
use Rattle.definition.proofs.Elements.{by_elements}
use Rattle.definition.proofs.Every.{every_at}
use Rattle.definition.proofs.Field.{element_lt, element-zero}
use Rattle.columns_definition.specs.Dump.{up_to, column, dump, block_to, block_at, undump, column_at}
use Rattle.columns_definition.proofs.Rows.{up_to-of, rows_cong, length-rows, row_at_lem, row-place, column-place, all_rows, length-column}

pub map-up_to : {A B : Type 0} (g : A → B) (n : ℕ) (f : ℕ → A) → map g (up_to n f) ≡ up_to n (λ i. g (f i))
unfolding up_to
map-up_to g zero f = refl
map-up_to g (suc n) f = map-append g (up_to n f) (f n ∷ []) ∙ rw (map-up_to g n f)

-- the w bytes of a position
pub length_column_of : (l : ℕ) (h : List Block) → length (column l h) ≡ length h
unfolding column
length_column_of l h = length-map h (element l)

pub length-dump : (h : List Block) → length (dump h) ≡ 32 * length h
unfolding dump
length-dump h = length-rows (length h) 32 (λ l. column l h) (λ l k. length_column_of l h) ∙ mul_comm (length h) 32

pub dump-column : (w l : ℕ) (h : List Block) → length h ≡ w → l < 32 → column_at w l (dump h) ≡ column l h
unfolding dump
dump-column w l h e k = row_at_lem w 32 l (λ l. column l h) (λ l k. length_column_of l h ∙ e) k

-- "Byte w*l + j, with l from 0 to 31, is for block j": its element at position l
pub dump-place : (w l j : ℕ) (h : List Block) → length h ≡ w → l < 32 → j < w → get_or (dump h) (w * l + j) 0 ≡ element l (get_or h j zero_block)
unfolding dump
dump-place w l j h e k i =
    row-place w 32 l j (λ l. column l h) (λ l k. length_column_of l h ∙ e) k i
    ∙ ap (get_or (column l h) j) (sym (element-zero l))
    ∙ unfold column in (get_or-map (element l) h j zero_block)

-- word k of what is read back from a dump
pub word_to : (n w j k : ℕ) (d : List ℕ) → k < 8 → get_or (words_of (block_to n w j d)) k 0 ≡ from_bits n (λ l. bit k (get_or d (w * l + j) 0))
unfolding words_of block_to
word_to n w j zero d h = refl
word_to n w j (suc zero) d h = refl
word_to n w j (suc (suc zero)) d h = refl
word_to n w j (suc (suc (suc zero))) d h = refl
word_to n w j (suc (suc (suc (suc zero)))) d h = refl
word_to n w j (suc (suc (suc (suc (suc zero))))) d h = refl
word_to n w j (suc (suc (suc (suc (suc (suc zero)))))) d h = refl
word_to n w j (suc (suc (suc (suc (suc (suc (suc zero))))))) d h = refl
word_to n w j (suc (suc (suc (suc (suc (suc (suc (suc k)))))))) d h = absurd (omega arith)

pub words-from : (w j : ℕ) (d : List ℕ) → Words (block_at w j d)
unfolding block_at block_to
words-from w j d =
    record {
      w0 = read 0;
      w1 = read 1;
      w2 = read 2;
      w3 = read 3;
      w4 = read 4;
      w5 = read 5;
      w6 = read 6;
      w7 = read 7;
    }
  where
    read : (k : ℕ) → from_bits 32 (λ l. bit k (get_or d (w * l + j) 0)) < 2 ^ 32
    read k = from_bits-lt 32 _ (λ l. bit_lt k _)

-- the element at position l of the block that is read is the byte that it is read from
pub element-from : (w j l : ℕ) (d : List ℕ) → l < 32 → get_or d (w * l + j) 0 < 2 ^ 8 → element l (block_at w j d) ≡ get_or d (w * l + j) 0
unfolding element block_at
element-from w j l d h b =
    sym (from_its_bits 8 (get_or d (w * l + j) 0) (λ k. bit l (get_or (words_of (block_at w j d)) k 0)) b
    (λ k hk.
    sym (ap (bit l) (word_to 32 w j k d hk) ∙ bit_of_bits 32 l (λ l. bit k (get_or d (w * l + j) 0)) (λ l. bit_lt k _) h)))

-- there and back: the blocks of a dump
pub undump-dump : (w : ℕ) (h : List Block) → length h ≡ w → AllWords h → undump w (dump h) ≡ h
unfolding undump
undump-dump w h e words =
    up_to-of w (λ j. block_at w j (dump h)) h zero_block e
    (λ j k.
    by_elements (block_at w j (dump h)) (get_or h j zero_block) (words-from w j (dump h)) (every_at Words h zero_block (omega arith) words j)
    (λ l hl.
    let p : get_or (dump h) (w * l + j) 0 ≡ element l (get_or h j zero_block) = dump-place w l j h e hl k in
    element-from w j l (dump h) hl (rw p (element_lt l (get_or h j zero_block))) ∙ p))

-- and back and there: the dump of what is read from any 32w bytes
pub dump-undump : (w : ℕ) (d : List ℕ) → length d ≡ 32 * w → ((i : ℕ) → get_or d i 0 < 2 ^ 8) → dump (undump w d) ≡ d
unfolding dump undump column
dump-undump w d e b =
    let n : length d ≡ w * 32 = e ∙ mul_comm 32 w in
    rows_cong 32 (λ l. map (element l) (up_to w (λ j. block_at w j d))) (λ l. column_at w l d)
    (λ l hl.
    map-up_to (element l) w (λ j. block_at w j d)
    ∙ up_to-of w (λ j. element l (block_at w j d)) (column_at w l d) 0 (length-column w 32 l d n hl)
    (λ j hj. element-from w j l d hl (b (w * l + j)) ∙ sym (column-place w l j d hj)))
    ∙ all_rows w 32 d n
