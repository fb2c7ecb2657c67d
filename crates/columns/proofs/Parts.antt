-- A block's words as they are read, column by column and bit by bit; and what a call with a code is refused for.
-- Assumes nothing.
use mathlib.Core.Path.{◌≡◌, refl, sym, ap, ◌∙◌}
use mathlib.Core.List.{List, [], ◌∷◌, ◌++◌, map}
use Prim.Native.Nat.{ℕ, zero, suc, ◌+◌, ◌*◌, ◌%◌, ◌^◌, ◌<◌, ◌≤◌}
use native.Mathlib.Nat.{mul-suc, mul-le-mul_right, mod-eq_of_lt, pow-suc}
use native.Mathlib.Numerals.{add-one}
use native.Mathlib.Omega.{arith}
use lib.ListN.{length, get_or, drop, get_or-append}
use lib.Pow.{pow_mono}
use lib.Seq.{get_or-drop, drop_at, drop-drop, ext_get_or}
use Rattle.std.specs.Simd.{first_chunks}
use Rattle.definition.specs.declared.Width.{Width}
use Rattle.definition.specs.declared.Block.{Block}
use Rattle.definition.specs.Word.{bit, from_bits}
use Rattle.definition.specs.Block.{zero_block, words_of, block_from}
use Rattle.definition.specs.Refusal.{first_of, width_refusal}
use Rattle.definition.specs.Width.{width_at, block_count}
use Rattle.definition.proofs.Bits.{bit_lt, from_bits-lt}
use Rattle.columns_definition.specs.Dump.{block_to, block_at, blocks_of}
use Rattle.columns_definition.specs.Columns.{blocks_at, columns_refusal, words_refusals}
use Rattle.columns_definition.proofs.Dumps.{word_to}
use Rattle.columns_definition.proofs.Rows.{up_to-of}
use Rattle.columns_definition.proofs.Words.{first_eight}

-- a bit above l others makes no more than a word
pub bit_fits : (y l a : ℕ) → y < 2 → l < 32 → a < 2 ^ l → y * 2 ^ l + a < 2 ^ 32
bit_fits y l a h k b =
    let t : 2 ^ suc l ≤ 2 ^ 32 = pow_mono {i = suc l} {j = 32} k in
    omega (arith, b, t, pow-suc 2 l, mul-le-mul_right {m = y} {n = 1} (2 ^ l) (omega arith))

-- so nothing is lost where it is shifted there
pub bit_shifted : (y l a : ℕ) → y < 2 → l < 32 → a < 2 ^ l → y * 2 ^ l % 2 ^ 32 ≡ y * 2 ^ l
bit_shifted y l a h k b = mod-eq_of_lt (omega (arith, bit_fits y l a h k b))

-- bit k of byte j of the first l columns of n bytes, as a word
unfoldable pub bits_to : (l n j k : ℕ) (d : List ℕ) → ℕ
bits_to l n j k d = from_bits l (λ i. bit k (get_or d (n * i + j) 0))

pub bits_none : (n j k : ℕ) (d : List ℕ) → bits_to 0 n j k d ≡ 0
unfolding bits_to from_bits
bits_none n j k d = refl

pub bits_below : (l n j k : ℕ) (d : List ℕ) → bits_to l n j k d < 2 ^ l
unfolding bits_to
bits_below l n j k d = from_bits-lt l _ (λ i. bit_lt k _)

-- one bit more
pub bits_more : (l n j k : ℕ) (d : List ℕ) → bit k (get_or d (n * l + j) 0) * 2 ^ l + bits_to l n j k d ≡ bits_to (l + 1) n j k d
unfolding bits_to from_bits
bits_more l n j k d = rw (add-one l)

-- all 32 are the words of the block
pub bits_all : (n j : ℕ) (d ws : List ℕ) → length ws ≡ 8 → ((k : ℕ) → k < 8 → get_or ws k 0 ≡ bits_to 32 n j k d) → ws ≡ words_of (block_at n j d)
unfolding bits_to block_at
bits_all n j d ws e h =
    ext_get_or 0 ws (words_of (block_to 32 n j d)) (e ∙ unfold words_of in refl)
    (λ k i. let s : k < 8 = omega (arith, i, e) in h k s ∙ sym (word_to 32 n j k d s))

-- byte j of the next column
pub next_byte : (n l j : ℕ) (d column rest : List ℕ) → drop (n * l) d ≡ column ++ rest → length column ≡ n → j < n → get_or column j 0 ≡ get_or d (n * l + j) 0
next_byte n l j d column rest e s h =
    sym (get_or-append column rest 0 j (omega arith)) ∙ ap (λ (ds : List ℕ). get_or ds j 0) (sym e) ∙ get_or-drop (n * l) d j 0

-- and what is left after it
pub next_rest : (n l : ℕ) (d column rest : List ℕ) → drop (n * l) d ≡ column ++ rest → length column ≡ n → rest ≡ drop (n * (l + 1)) d
next_rest n l d column rest e s =
    sym (drop_at column rest n s) ∙ ap (drop n) (sym e) ∙ drop-drop n (n * l) d ∙ ap (λ (i : ℕ). drop i d) (rw (add-one l) (sym (mul-suc n l)))

-- eight words at a time are the blocks
chunked_at : (k j : ℕ) (ws : List ℕ) (d : Block) → j < k → block_from (drop (8 * j) ws) ≡ get_or (map block_from (first_chunks 8 k ws)) j d
unfolding block_from
chunked_at zero j ws d h = absurd (omega arith)
chunked_at (suc k) zero ws d h = let e : 8 * 0 ≡ 0 = omega arith in rw e (first_eight ws)
chunked_at (suc k) (suc j) ws d h =
    let e : 8 + 8 * j ≡ 8 * suc j = omega arith in
    let t : drop (8 * j) (drop 8 ws) ≡ drop (8 * suc j) ws = rw (drop-drop (8 * j) 8 ws, e) in
    ap block_from (sym t) ∙ chunked_at k j (drop 8 ws) d (omega arith)

length-chunked : (k : ℕ) (ws : List ℕ) → length (map block_from (first_chunks 8 k ws)) ≡ k
length-chunked zero ws = refl
length-chunked (suc k) ws = ap (λ (n : ℕ). suc n) (length-chunked k (drop 8 ws))

pub chunked : (k : ℕ) (ws : List ℕ) → map block_from (first_chunks 8 k ws) ≡ blocks_of k ws
unfolding blocks_of
chunked k ws =
    sym (up_to-of k (λ j. block_from (drop (8 * j) ws)) (map block_from (first_chunks 8 k ws)) zero_block (length-chunked k ws) (λ j h. chunked_at k j ws zero_block h))

-- of a call at a code's w and so many blocks
module _ (code : ℕ) {w : Width} {n : ℕ} (k : w ≡ width_at code) (e : n ≡ block_count w) where
  pub count : n ≡ blocks_at code
  unfolding blocks_at
  count = rw k at e

  -- its number is that of its refusals
  pub judged : {number : ℕ} (d l : ℕ) → number ≡ first_of (width_refusal code ∷ columns_refusal d (32 * blocks_at code) l (8 * n) ∷ []) → number ≡ first_of (words_refusals code d l)
  unfolding words_refusals
  judged d l f = rw count at f
