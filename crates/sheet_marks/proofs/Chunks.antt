-- A chunk of a list, and the block that a chunk of eight words is.
-- Assumes nothing.
use mathlib.Core.Path.{◌≡◌, ◌∙◌}
use mathlib.Core.List.{List, []}
use Prim.Native.Nat.{ℕ, zero, suc, ◌+◌, ◌*◌, ◌<◌}
use native.Mathlib.Omega.{arith}
use lib.ListN.{get_or, take, drop}
use lib.Seq.{drop-drop}
use Rattle.std.specs.Simd.{first_chunks}
use Rattle.std.proofs.lemmas.List.{get_or-take}
use Rattle.definition.specs.Block.{block_from}

pub chunk_at : (n k m : ℕ) (xs d : List ℕ) → m < k → get_or (first_chunks n k xs) m d ≡ take n (drop (n * m) xs)
chunk_at n zero m xs d h = absurd (omega arith)
chunk_at n (suc k) zero xs d h = let e : n * 0 ≡ 0 = omega arith in rw e
chunk_at n (suc k) (suc m) xs d h =
    let e : n + n * m ≡ n * suc m = omega arith in
    chunk_at n k m (drop n xs) d (omega arith) ∙ rw (drop-drop (n * m) n xs, e)

-- a block is read from its eight words
pub block_front : (xs : List ℕ) → block_from (take 8 xs) ≡ block_from xs
unfolding block_from
block_front xs =
    λ i. record {
      a0 = get_or-take 8 xs 0 0 (omega arith) i;
      a1 = get_or-take 8 xs 1 0 (omega arith) i;
      a2 = get_or-take 8 xs 2 0 (omega arith) i;
      a3 = get_or-take 8 xs 3 0 (omega arith) i;
      a4 = get_or-take 8 xs 4 0 (omega arith) i;
      a5 = get_or-take 8 xs 5 0 (omega arith) i;
      a6 = get_or-take 8 xs 6 0 (omega arith) i;
      a7 = get_or-take 8 xs 7 0 (omega arith) i;
    }

pub block_at : (k : ℕ) (xs : List ℕ) (ts : List (List ℕ)) → ts ≡ first_chunks 8 5 xs → k < 5 → block_from (get_or ts k []) ≡ block_from (drop (8 * k) xs)
block_at k xs ts e h = rw (e, chunk_at 8 5 k xs [] h, block_front (drop (8 * k) xs))
