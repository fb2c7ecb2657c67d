-- Writing into a buffer piece by piece.
-- Assumes nothing.
use mathlib.Core.Path.{◌≡◌}
use mathlib.Core.List.{List, [], ◌++◌, append_assoc, append-nil}
use Prim.Native.Nat.{ℕ, ◌+◌, ◌-◌, ◌≤◌}
use native.Mathlib.Nat.{add_assoc, add-zero}
use native.Mathlib.Omega.{arith}
use lib.ListN.{length, take, drop, length-append, length-drop, take-append-drop}
use lib.Seq.{take_at, drop_at, take-take, take-append-le, drop-drop, drop-append-add, length-take-le}
use Rattle.definition.specs.Buffer.{overwrite_at}

-- the next piece behind one that was written from place i on
pub overwrite_at-more : (i j : ℕ) (p v l : List ℕ) → i ≤ length l → i + length p ≡ j
    → overwrite_at j v (overwrite_at i p l) ≡ overwrite_at i (p ++ v) l
unfolding overwrite_at
overwrite_at-more i j p v l h e =
    let q : List ℕ = take i l ++ p in
    let x : List ℕ = drop (i + length p) l in
    let n : length q ≡ j = omega (arith, length-append (take i l) p, length-take-le i l h) in
    let d : drop (j + length v) (q ++ x) ≡ drop (i + length (p ++ v)) l =
    rw (← n, drop-append-add q x (length v), drop-drop, length-append p v, add_assoc) in
    rw (take_at q x j n, d, append_assoc (take i l) p v)

pub length-overwrite_at : (i : ℕ) (p l : List ℕ) → i + length p ≤ length l → length (overwrite_at i p l) ≡ length l
unfolding overwrite_at
length-overwrite_at i p l h =
    omega (
      arith,
      length-append (take i l ++ p) (drop (i + length p) l),
      length-append (take i l) p,
      length-take-le i l (omega arith),
      length-drop (i + length p) l,
    )

-- nothing written
pub overwrite_at-none : (i : ℕ) (l : List ℕ) → overwrite_at i [] l ≡ l
unfolding overwrite_at
overwrite_at-none i l = rw (add-zero i, append-nil (take i l)) (take-append-drop i l)

-- before and after a piece written from place i on, the elements are as they were
pub take-overwrite_at : (i j : ℕ) (p l : List ℕ) → j ≤ i → i ≤ length l → take j (overwrite_at i p l) ≡ take j l
unfolding overwrite_at
take-overwrite_at i j p l h n =
    let k : j ≤ length (take i l) = omega (arith, length-take-le i l n) in
    rw (append_assoc, take-append-le j (take i l) (p ++ drop (i + length p) l)) (take-take j i l h)

pub drop-overwrite_at : (i j : ℕ) (p l : List ℕ) → i + length p ≤ j → i ≤ length l → drop j (overwrite_at i p l) ≡ drop j l
unfolding overwrite_at
drop-overwrite_at i j p l h n =
    let y : List ℕ = take i l ++ p in
    let s : ℕ = i + length p in
    let m : length y ≡ s = omega (arith, length-append (take i l) p, length-take-le i l n) in
    let e : s + (j - s) ≡ j = omega arith in
    rw (← e, ← drop-drop (j - s) s (y ++ drop s l), ← drop-drop (j - s) s l, drop_at y (drop s l) s m)
