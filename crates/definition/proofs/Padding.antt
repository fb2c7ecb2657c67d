-- A string of bytes as blocks: block by block, over two strings, and padded.
-- Assumes nothing.
use mathlib.Core.Path.{◌≡◌, refl}
use mathlib.Core.List.{List, [], ◌∷◌, ◌++◌}
use Prim.Native.Nat.{ℕ, zero, suc, ◌+◌, ◌-◌, ◌*◌, ◌/◌, ◌%◌, ◌<◌, ◌≤◌}
use native.Mathlib.Nat.{zero-add, suc-add}
use native.Mathlib.Omega.{arith}
use lib.ListN.{length, drop, length-append, length-drop, length-replicate, drop_of_length-le, get_or-append}
use lib.Seq.{drop-append-le, drop-drop}
use Rattle.definition.specs.declared.Block.{Block}
use Rattle.definition.specs.Block.{word_at, block_of}
use Rattle.definition.specs.Padding.{padding, padded, blocks_to, blocks, rest, last_block}

-- blocks that are given word by word, and have equal words
abbrev pub block_by : (ℕ → ℕ) → Block
block_by f = record { a0 = f 0; a1 = f 1; a2 = f 2; a3 = f 3; a4 = f 4; a5 = f 5; a6 = f 6; a7 = f 7 }

pub by_words : (f g : ℕ → ℕ) → ((k : ℕ) → k < 8 → f k ≡ g k) → block_by f ≡ block_by g
by_words f g e =
    λ i. record {
      a0 = e 0 (omega arith) i;
      a1 = e 1 (omega arith) i;
      a2 = e 2 (omega arith) i;
      a3 = e 3 (omega arith) i;
      a4 = e 4 (omega arith) i;
      a5 = e 5 (omega arith) i;
      a6 = e 6 (omega arith) i;
      a7 = e 7 (omega arith) i;
    }

-- a block is read from its first 32 bytes
block-append : (x y : List ℕ) → 32 ≤ length x → block_of (x ++ y) ≡ block_of x
unfolding block_of word_at
block-append x y h =
    by_words (word_at (x ++ y)) (word_at x)
    (λ k l. rw (
      get_or-append x y 0 (4 * k) (omega arith),
      get_or-append x y 0 (4 * k + 1) (omega arith),
      get_or-append x y 0 (4 * k + 2) (omega arith),
      get_or-append x y 0 (4 * k + 3) (omega arith),
    ))

-- the full blocks of a string
pub blocks_none : (x : List ℕ) → length x < 32 → blocks x ≡ []
unfolding blocks blocks_to
blocks_none x h = let e : length x / 32 ≡ 0 = omega arith in rw e

pub blocks-cons : (x : List ℕ) → 32 ≤ length x → blocks x ≡ block_of x ∷ blocks (drop 32 x)
unfolding blocks blocks_to
blocks-cons x h =
    let e : length x / 32 ≡ suc (length (drop 32 x) / 32) = omega (arith, length-drop 32 x) in
    rw e

pub blocks_one : (x : List ℕ) → length x ≡ 32 → blocks x ≡ block_of x ∷ []
blocks_one x e = rw (blocks-cons x (omega arith), blocks_none (drop 32 x) (omega (arith, length-drop 32 x)))

-- the first n blocks and the next m
blocks-add : (n m : ℕ) (x : List ℕ) → blocks_to (n + m) x ≡ blocks_to n x ++ blocks_to m (drop (n * 32) x)
unfolding blocks_to
blocks-add zero m x = rw zero-add
blocks-add (suc n) m x =
    let e : suc n * 32 ≡ 32 + n * 32 = omega arith in
    rw (suc-add, e, ← drop-drop (n * 32) 32 x, blocks-add n m (drop 32 x))

-- blocks are read from the first of two strings where it has them
blocks-before : (n : ℕ) (x y : List ℕ) → n * 32 ≤ length x → blocks_to n (x ++ y) ≡ blocks_to n x
unfolding blocks_to
blocks-before zero x y h = refl
blocks-before (suc n) x y h =
    let l : 32 ≤ length x = omega arith in
    rw (block-append x y l, drop-append-le 32 x y l, blocks-before n (drop 32 x) y (omega (arith, length-drop 32 x)))

-- fewer than 32 bytes wait for a full block: those past the last multiple of 32
pub length_rest : (x : List ℕ) → length (rest x) ≡ length x % 32
unfolding rest
length_rest x = omega (arith, length-drop (length x / 32 * 32) x)

-- the blocks of two strings one after the other: those of the first, and those that its rest and the second make
pub blocks-feed : (x y : List ℕ) → blocks (x ++ y) ≡ blocks x ++ blocks (rest x ++ y)
unfolding blocks rest
blocks-feed x y =
    let n : ℕ = length x / 32 in
    let h : n * 32 ≤ length x = omega arith in
    let e : length (x ++ y) / 32 ≡ n + length (drop (n * 32) x ++ y) / 32 =
    omega (arith, length-append x y, length-append (drop (n * 32) x) y, length-drop (n * 32) x) in
    rw (e, blocks-add n _ (x ++ y), blocks-before n x y h, drop-append-le (n * 32) x y h)

-- what waits after a second string is what its bytes leave behind those that waited
pub rest-feed : (x y : List ℕ) → rest (rest x ++ y) ≡ rest (x ++ y)
unfolding rest
rest-feed x y =
    let n : ℕ = length x / 32 * 32 in
    let h : n ≤ length x = omega arith in
    let e : length (x ++ y) / 32 * 32 ≡ n + length (drop n x ++ y) / 32 * 32 =
    omega (arith, length-append x y, length-append (drop n x) y, length-drop n x) in
    rw (e, ← drop-drop _ n (x ++ y), drop-append-le n x y h)

-- nothing waits after n full blocks, which come before what follows them
pub rest-whole : (n : ℕ) (x : List ℕ) → length x ≡ n * 32 → rest x ≡ []
unfolding rest
rest-whole n x e = drop_of_length-le x {i = length x / 32 * 32} (omega arith)

pub blocks-append : (n : ℕ) (x y : List ℕ) → length x ≡ n * 32 → blocks (x ++ y) ≡ blocks x ++ blocks y
blocks-append n x y e = rw (rest-whole n x e) at (blocks-feed x y)

pub length-padding : (byte n : ℕ) → length (padding byte n) ≡ 32 - n % 32
unfolding padding
length-padding byte n = omega (arith, length-replicate {A = ℕ} (31 - n % 32) 0)

pub rest_short : (x : List ℕ) → length x < 32 → rest x ≡ x
unfolding rest
rest_short x h = let e : length x / 32 * 32 ≡ 0 = omega arith in rw e

-- a padded string is its full blocks and one more
pub blocks-padded : (byte : ℕ) (x : List ℕ) → blocks (padded byte x) ≡ blocks x ++ (last_block byte x ∷ [])
unfolding padded last_block
blocks-padded byte x =
    let p : List ℕ = padding byte (length x) in
    rw (blocks-feed x p, blocks_one (rest x ++ p) (omega (arith, length-append (rest x) p, length_rest x, length-padding byte (length x))))
