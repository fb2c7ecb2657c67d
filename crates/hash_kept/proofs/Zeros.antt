-- Where bits are zero, and where words are: the bits of a byte after its first ones, and the words of a block.
-- Assumes nothing.
use Rattle.std.proofs.Common.{◌≡◌, ℕ, zero, suc, ◌+◌, ◌-◌, ◌*◌, ◌/◌, ◌%◌, ◌^◌, ◌<◌, ◌≤◌, true, ◌&&◌, eqb, List, [], ◌∷◌, ◌++◌, length, get_or, take, drop, replicate, sym, refl, ap, ◌∙◌, add-zero, mod-eq_of_lt, arith, length-drop, get_or-drop, drop-drop, take-add}
use mathlib.Core.Bool.{and-true, and_assoc}
use native.Mathlib.Nat.{mul-mod_left}
use lib.Pow.{mod-pow-add, shl-shr}
use lib.Seq.{drop-append-le}
use Rattle.definition.specs.Word.{bit, word_of}
use Rattle.definition.specs.Block.{words_of, word_at, block_of}
use Rattle.definition.specs.Padding.{low_bits, bits_of_byte}
use Rattle.hash_definition.specs.Record.{all_zero}
use Rattle.hash_definition.proofs.Zeros.{zero-append, plus-zero, shift_zero, low_zero, low_drop}

-- of a byte the bits after the first o are those that a shift to the left leaves
pub odd-zero : (o a : ℕ) → o ≤ 7 → a < 2 ^ 8 → eqb (a * 2 ^ o % 2 ^ 8) 0 ≡ all_zero (drop o (bits_of_byte a))
odd-zero o a h l =
    let n : ℕ = 8 - o in
    let m : 8 ≡ n + o = omega arith in
    let b : bits_of_byte a ≡ low_bits 8 a = unfold bits_of_byte low_bits bit in rw (mod-eq_of_lt {n = a / 2 ^ 7} {m = 2} (omega arith)) in
    let s : a * 2 ^ o % 2 ^ 8 ≡ a % 2 ^ n * 2 ^ o =
    ap (λ (k : ℕ). a * 2 ^ o % 2 ^ k) m ∙ mod-pow-add (a * 2 ^ o) n o ∙ rw (shl-shr a o, mul-mod_left a (2 ^ o), add-zero) in
    rw (s, shift_zero (a % 2 ^ n) o, ← low_zero n a, b, low_drop n 8 o a refl)

-- a word is zero where its bytes are
word-zero : (a b c d : ℕ) → eqb (word_of a b c d) 0 ≡ eqb a 0 && eqb b 0 && eqb c 0 && eqb d 0
unfolding word_of
word-zero a b c d =
    rw (
      plus-zero (a * 2 ^ 24 + b * 2 ^ 16 + c * 2 ^ 8) d,
      plus-zero (a * 2 ^ 24 + b * 2 ^ 16) (c * 2 ^ 8),
      plus-zero (a * 2 ^ 24) (b * 2 ^ 16),
      shift_zero a 24,
      shift_zero b 16,
      shift_zero c 8,
    )

four-zero : (z : List ℕ) → all_zero (take 4 z) ≡ eqb (word_of (get_or z 0 0) (get_or z 1 0) (get_or z 2 0) (get_or z 3 0)) 0
unfolding all_zero
four-zero [] = simp word-zero
four-zero (a ∷ []) = simp (word-zero, and-true)
four-zero (a ∷ b ∷ []) = simp (word-zero, and-true)
four-zero (a ∷ b ∷ c ∷ []) = simp (word-zero, and-true, and_assoc)
four-zero (a ∷ b ∷ c ∷ d ∷ z) = simp (word-zero, and-true, and_assoc)

-- so the words of a block are where the bytes are that it is read from
abbrev words : (k j : ℕ) → List ℕ → List ℕ
words zero j y = []
words (suc k) j y = word_at y j ∷ words k (suc j) y

words-zero : (k j : ℕ) (y : List ℕ) → all_zero (words k j y) ≡ all_zero (take (4 * k) (drop (4 * j) y))
unfolding all_zero
words-zero zero j y = refl
words-zero (suc k) j y =
    let z : List ℕ = drop (4 * j) y in
    let e : 4 * suc k ≡ 4 + 4 * k = omega arith in
    let f : 4 * j + 4 ≡ 4 * suc j = omega arith in
    let w : eqb (word_at y j) 0 ≡ all_zero (take 4 z) =
    sym (four-zero z ∙ unfold word_at in rw (get_or-drop (4 * j) y 0 0, get_or-drop (4 * j) y 1 0, get_or-drop (4 * j) y 2 0, get_or-drop (4 * j) y 3 0, add-zero (4 * j))) in
    rw (w, words-zero k (suc j) y, e, take-add 4 (4 * k) z, zero-append (take 4 z) (take (4 * k) (drop 4 z)), drop-drop 4 (4 * j) y, f)

block-zero : (y : List ℕ) → all_zero (words_of (block_of y)) ≡ all_zero (take 32 y)
unfolding words_of block_of
block-zero y = words-zero 8 0 y

-- zeros after a list
zeros-zero : (n m : ℕ) → all_zero (take n (replicate m 0)) ≡ true
unfolding all_zero
zeros-zero zero m = refl
zeros-zero (suc n) zero = refl
zeros-zero (suc n) (suc m) = zeros-zero n m

filled_zero : (x : List ℕ) (n m : ℕ) → length x ≤ n → all_zero (take n (x ++ replicate m 0)) ≡ all_zero x
unfolding all_zero
filled_zero [] n m h = zeros-zero n m
filled_zero (a ∷ x) zero m h = absurd (omega arith)
filled_zero (a ∷ x) (suc n) m h = rw (filled_zero x n m (omega arith))

-- bytes from a place on, read as a block out of a buffer with zeros after them
pub tail_zero : (p : List ℕ) (at m : ℕ) → length p ≡ 32 → at ≤ 32 → all_zero (words_of (block_of (drop at (p ++ replicate m 0)))) ≡ all_zero (drop at p)
tail_zero p at m e h =
    block-zero (drop at (p ++ replicate m 0))
    ∙ rw (drop-append-le at p (replicate m 0) (omega arith)) (filled_zero (drop at p) 32 m (omega (arith, length-drop at p)))
