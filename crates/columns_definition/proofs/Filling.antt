-- A buffer that a loop fills, element by element from a place on, or from its beginning by rows of one length.
-- Assumes nothing.
use mathlib.Core.Path.{◌≡◌, refl, sym, ap, ◌∙◌}
use mathlib.Core.List.{List, [], ◌∷◌, append_assoc, append-nil}
use Prim.Native.Nat.{ℕ, suc, ◌+◌, ◌*◌, ◌<◌, ◌≤◌}
use native.Mathlib.Nat.{zero-add, mul-le-mul_left}
use native.Mathlib.Numerals.{add-one}
use native.Mathlib.Omega.{arith}
use lib.ListN.{length, set, take, drop, drop_of_length-le}
use lib.Seq.{set_split, append_snoc, drop-drop}
use borrow.Rule.Slice.PartMut.{put_mid}
use Rattle.definition.specs.Buffer.{overwrite_at}
use Rattle.definition.proofs.Buffer.{overwrite_at-more, overwrite_at-none, length-overwrite_at}
use Rattle.columns_definition.specs.Dump.{up_to, rows_to}
use Rattle.columns_definition.proofs.Rows.{length-up_to, length-rows}

-- one element
pub set_one : (l : List ℕ) (i x : ℕ) → i < length l → set l i x ≡ overwrite_at i (x ∷ []) l
unfolding overwrite_at
set_one l i x h = set_split l i x h ∙ rw (add-one i) (sym (append_snoc (take i l) x (drop (suc i) l)))

-- one more of f 0, f 1 and so on
pub element_more : (i j : ℕ) (f : ℕ → ℕ) (l : List ℕ) → i + j < length l
    → set (overwrite_at i (up_to j f) l) (i + j) (f j) ≡ overwrite_at i (up_to (j + 1) f) l
element_more i j f l h =
    let n : length (up_to j f) ≡ j = length-up_to j f in
    let k : length (overwrite_at i (up_to j f) l) ≡ length l = length-overwrite_at i (up_to j f) l (omega arith) in
    set_one (overwrite_at i (up_to j f) l) (i + j) (f j) (omega arith)
    ∙ overwrite_at-more i (i + j) (up_to j f) (f j ∷ []) l (omega arith) (ap (λ (m : ℕ). i + m) n)
    ∙ rw (add-one j) (unfold up_to in refl)

pub element_none : (i : ℕ) (f : ℕ → ℕ) (l : List ℕ) → l ≡ overwrite_at i (up_to 0 f) l
unfolding up_to
element_none i f l = sym (overwrite_at-none i l)

-- what a part of it is set to stands there
pub part_set : (i k : ℕ) (p l : List ℕ) → k ≡ length p → put_mid i k l p ≡ overwrite_at i p l
unfolding overwrite_at
part_set i k p l e = rw (e, drop-drop (length p) i l, ← append_assoc)

-- rows of n elements
module _ (n : ℕ) (f : ℕ → List ℕ) (l : List ℕ) where
  pub rows_none : l ≡ overwrite_at 0 (rows_to 0 f) l
  unfolding rows_to
  rows_none = sym (overwrite_at-none 0 l)

  module _ (k : ℕ) (h : (i : ℕ) → i < k → length (f i) ≡ n) where
    -- one more row
    pub rows_more : overwrite_at (n * k) (f k) (overwrite_at 0 (rows_to k f) l) ≡ overwrite_at 0 (rows_to (k + 1) f) l
    rows_more =
        overwrite_at-more 0 (n * k) (rows_to k f) (f k) l (omega arith) (zero-add (length (rows_to k f)) ∙ length-rows n k f h)
        ∙ rw (add-one k) (unfold rows_to in refl)

    -- the buffer is as long as it was
    pub rows-length : (m : ℕ) → k ≤ m → length l ≡ n * m → length (overwrite_at 0 (rows_to k f) l) ≡ length l
    rows-length m i e =
        length-overwrite_at 0 (rows_to k f) l (omega (arith, length-rows n k f h, mul-le-mul_left {m = k} {n = m} n i))

    -- all of them
    pub rows_all : length l ≡ n * k → overwrite_at 0 (rows_to k f) l ≡ rows_to k f
    unfolding overwrite_at
    rows_all e =
        let r : length (rows_to k f) ≡ n * k = length-rows n k f h in
        rw (drop_of_length-le l {i = 0 + length (rows_to k f)} (omega arith)) (append-nil (rows_to k f))
