-- Reading a whole block, and writing where there is room and where there is none.
-- Assumes nothing.
use mathlib.Core.Path.{◌≡◌, sym, ap, ◌∙◌}
use mathlib.Core.List.{List, [], ◌++◌}
use Prim.Native.Nat.{ℕ, ◌+◌, ◌*◌, ◌<◌, ◌≤◌}
use native.Mathlib.Decide.{dec_le}
use native.Mathlib.Omega.{arith}
use borrow.Author.Tests.{le-leb, lt-leb}
use borrow.Rule.Slice.PartMut.{put_mid}
use lib.ListN.{length, take, length-append}
use lib.Seq.{drop-drop}
use Rattle.std.proofs.Common.{append_assoc}
use Rattle.std.proofs.lemmas.List.{get_or-take}
use Rattle.definition.specs.Block.{word_at, block_of}
use Rattle.definition.specs.Buffer.{overwrite_at, overwrite}
use Rattle.definition.proofs.Padding.{by_words}
use Rattle.definition.proofs.Buffer.{overwrite_at-more, overwrite_at-none, length-overwrite_at}
use Rattle.octets.specs.Total.{block_when, first_block, write_when, write_at}

-- a slice that has 32 bytes begins with a block
pub whole-block : (x : List ℕ) → 32 ≤ length x → first_block x ≡ block_of x
unfolding first_block block_when
whole-block x h = rw (le-leb 32 (length x) h)

-- a word is read from the bytes up to its end, and so is a block
pub word-front : (n k : ℕ) (x : List ℕ) → 4 * k + 4 ≤ n → word_at (take n x) k ≡ word_at x k
unfolding word_at
word-front n k x h =
    rw (
      get_or-take n x (4 * k) 0 (omega arith),
      get_or-take n x (4 * k + 1) 0 (omega arith),
      get_or-take n x (4 * k + 2) 0 (omega arith),
      get_or-take n x (4 * k + 3) 0 (omega arith),
    )

pub block-front : (n : ℕ) (x : List ℕ) → 32 ≤ n → block_of (take n x) ≡ block_of x
unfolding block_of
block-front n x h = by_words (word_at (take n x)) (word_at x) (λ k l. word-front n k x (omega arith))

-- where there is room
pub write_at_lem : (i : ℕ) (p l : List ℕ) → i + length p ≤ length l → write_at i p l ≡ overwrite_at i p l
unfolding write_at write_when
write_at_lem i p l h = rw (le-leb (i + length p) (length l) h)

-- what is copied into the part from place i on stands there
pub put_part : (i k : ℕ) (p l q : List ℕ) → k ≡ length p → i + length p ≤ length l → q ≡ p → put_mid i k l q ≡ write_at i p l
unfolding overwrite_at
put_part i k p l q m h e = rw (e, m, drop-drop (length p) i l, ← append_assoc) (sym (write_at_lem i p l h))

-- where there is none
pub write_not : (i : ℕ) (p l : List ℕ) → length l < i + length p → write_at i p l ≡ l
unfolding write_at write_when
write_not i p l h = rw (lt-leb (i + length p) (length l) h)

pub write_more : (p v l : List ℕ) (i : ℕ) → length p ≡ i → i + length v ≤ length l → write_at i v (overwrite p l) ≡ overwrite (p ++ v) l
write_more p v l i e h =
    write_at_lem i v (overwrite p l) (omega (arith, length-overwrite_at 0 p l (omega arith))) ∙ overwrite_at-more 0 i p v l (omega arith) (omega arith)

pub write_at-more : (i j : ℕ) (p v l : List ℕ) → i + length p ≡ j → j + length v ≤ length l
    → write_at j v (write_at i p l) ≡ write_at i (p ++ v) l
write_at-more i j p v l e h =
    let n : i + length p ≤ length l = omega arith in
    let m : i + length (p ++ v) ≤ length l = omega (arith, length-append p v) in
    rw (write_at_lem i p l n, write_at_lem i (p ++ v) l m, write_at_lem j v (overwrite_at i p l) (rw (length-overwrite_at i p l n) h))
    (overwrite_at-more i j p v l (omega arith) e)

-- nothing written
pub write_none : (i : ℕ) (l : List ℕ) → write_at i [] l ≡ l
write_none i l = elim (dec_le (i + 0) (length l)) [ yes h ↦ write_at_lem i [] l h ∙ overwrite_at-none i l | no h ↦ write_not i [] l (omega arith) ]

pub length-write_at : (i : ℕ) (p l : List ℕ) → length (write_at i p l) ≡ length l
length-write_at i p l =
    elim (dec_le (i + length p) (length l)) [
      | yes h ↦ ap length (write_at_lem i p l h) ∙ length-overwrite_at i p l h
      | no h ↦ ap length (write_not i p l (omega arith))
    ]
