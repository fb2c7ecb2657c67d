-- The 8w words of a state are the words of its blocks, and the blocks are those of their words.
-- Assumes nothing.
use mathlib.Core.Path.{◌≡◌, refl, sym, ap, ◌∙◌}
use mathlib.Core.List.{List, [], ◌∷◌, ◌++◌, append_assoc, append-nil}
use Prim.Native.Nat.{ℕ, zero, suc, ◌+◌, ◌*◌, ◌^◌, ◌<◌}
use lib.Dec.{T, ltb, ltb→lt}
use lib.ListN.{length, get_or, take, drop}
use lib.Seq.{get_or-take, get_or-drop}
use Rattle.definition.specs.declared.Block.{Block}
use Rattle.definition.specs.Block.{zero_block, words_of, words_of_all, block_from}
use Rattle.definition.proofs.Bounds.{Words, AllWords}
use Rattle.columns_definition.specs.Dump.{up_to, rows_to, blocks_of, column_at}
use Rattle.columns_definition.proofs.Rows.{up_to-of, every-up_to, rows_cong, length-rows, row_at_lem, all_rows, length-column}

words_append : (l m : List Block) → words_of_all (l ++ m) ≡ words_of_all l ++ words_of_all m
unfolding words_of_all
words_append [] m = refl
words_append (b ∷ l) m = rw (words_append l m) (sym (append_assoc (words_of b) (words_of_all l) (words_of_all m)))

-- eight words a block
pub words-rows : (n : ℕ) (f : ℕ → Block) → words_of_all (up_to n f) ≡ rows_to n (λ j. words_of (f j))
unfolding up_to rows_to
words-rows zero f = unfold words_of_all in refl
words-rows (suc n) f =
    words_append (up_to n f) (f n ∷ []) ∙ rw (words-rows n f) (unfold words_of_all in rw (append-nil (words_of (f n))))

-- a block is read from the first eight words, which are its words
pub first_eight : (l : List ℕ) → block_from l ≡ block_from (take 8 l)
unfolding block_from
first_eight l = rw (at 0 tt, at 1 tt, at 2 tt, at 3 tt, at 4 tt, at 5 tt, at 6 tt, at 7 tt)
  where
    at : (k : ℕ) → T (ltb k 8) → get_or (take 8 l) k 0 ≡ get_or l k 0
    at k h = get_or-take 8 l k 0 (ltb→lt k 8 h)

words_of_lem : (l : List ℕ) → length l ≡ 8 → words_of (block_from l) ≡ l
unfolding words_of block_from up_to
words_of_lem l e = up_to-of 8 (λ k. get_or l k 0) l 0 e (λ k h. refl)

block_of : (b : Block) → block_from (words_of b) ≡ b
unfolding words_of block_from
block_of b = refl

pub words-blocks : (w : ℕ) (ws : List ℕ) → length ws ≡ 8 * w → words_of_all (blocks_of w ws) ≡ ws
unfolding blocks_of
words-blocks w ws e =
    words-rows w (λ j. block_from (drop (8 * j) ws))
    ∙ rows_cong w (λ j. words_of (block_from (drop (8 * j) ws))) (λ j. column_at 8 j ws)
    (λ j h.
    ap words_of (first_eight (drop (8 * j) ws)) ∙ unfold column_at in (words_of_lem (column_at 8 j ws) (length-column 8 w j ws e h)))
    ∙ all_rows 8 w ws e

pub blocks-words : (w : ℕ) (h : List Block) → length h ≡ w → blocks_of w (words_of_all h) ≡ h
unfolding blocks_of
blocks-words w h e =
    let f : ℕ → Block = λ j. get_or h j zero_block in
    let r : words_of_all h ≡ rows_to w (λ j. words_of (f j)) = ap words_of_all (sym (up_to-of w f h zero_block e (λ j i. refl))) ∙ words-rows w f in
    up_to-of w (λ j. block_from (drop (8 * j) (words_of_all h))) h zero_block e
    (λ j i.
    first_eight (drop (8 * j) (words_of_all h))
    ∙ ap block_from (taken j ∙ ap (column_at 8 j) r ∙ row_at_lem 8 w j (λ j. words_of (f j)) (λ l k. unfold words_of in refl) i)
    ∙ block_of (f j))
  where
    taken : (j : ℕ) → take 8 (drop (8 * j) (words_of_all h)) ≡ column_at 8 j (words_of_all h)
    taken j = unfold column_at in refl

-- words of 32 bits make blocks of such words
pub blocks_all_words : (w : ℕ) (ws : List ℕ) → ((i : ℕ) → get_or ws i 0 < 2 ^ 32) → AllWords (blocks_of w ws)
unfolding blocks_of block_from
blocks_all_words w ws b =
    every-up_to Words w (λ j. block_from (drop (8 * j) ws))
    (λ j. record { w0 = at j 0; w1 = at j 1; w2 = at j 2; w3 = at j 3; w4 = at j 4; w5 = at j 5; w6 = at j 6; w7 = at j 7 })
  where
    at : (j k : ℕ) → get_or (drop (8 * j) ws) k 0 < 2 ^ 32
    at j k = rw (get_or-drop (8 * j) ws k 0) (b (8 * j + k))

pub length-words : (w : ℕ) (h : List Block) → length h ≡ w → length (words_of_all h) ≡ 8 * w
length-words w h e =
    let f : ℕ → Block = λ j. get_or h j zero_block in
    ap (λ (l : List Block). length (words_of_all l)) (sym (up_to-of w f h zero_block e (λ j i. refl)))
    ∙ ap length (words-rows w f)
    ∙ length-rows 8 w (λ j. words_of (f j)) (λ l k. unfold words_of in refl)
