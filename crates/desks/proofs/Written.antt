-- Records written at different places, in either order.
-- Assumes nothing.
use mathlib.Core.Path.{◌≡◌, refl, sym, ◌∙◌}
use mathlib.Core.List.{List, [], ◌∷◌, ◌++◌}
use Prim.Native.Nat.{ℕ, ◌+◌, ◌*◌, ◌<◌, ◌≤◌}
use native.Mathlib.Decide.{dec_le}
use native.Mathlib.Omega.{arith}
use lib.ListN.{length, take, drop, take-append-drop}
use lib.Seq.{length-take-le}
use Rattle.definition.specs.Buffer.{Every, overwrite_at}
use Rattle.definition.proofs.Buffer.{length-overwrite_at}
use Rattle.sheet_definition.specs.Sheet.{record_bytes}
use Rattle.sheet_definition.specs.SheetCalls.{written_at}
use Rattle.sheet_definition.proofs.Joined.{overwrite_behind, overwrite-append}
use Rattle.sheet_definition.proofs.Many.{Below, first_sized}

-- two pieces, one in the front of a list and one behind it
front_and_behind : (i j : ℕ) (x y a b : List ℕ) → i + length x ≤ length a
    → overwrite_at i x (overwrite_at (length a + j) y (a ++ b)) ≡ overwrite_at (length a + j) y (overwrite_at i x (a ++ b))
front_and_behind i j x y a b h =
    let a' : List ℕ = overwrite_at i x a in
    let n : length a ≡ length a' = sym (length-overwrite_at i x a h) in
    rw (overwrite_behind a j y b, overwrite-append i x a (overwrite_at j y b) h, overwrite-append i x a b h, n) (sym (overwrite_behind a' j y b))

lower_first : (i j : ℕ) (x y l : List ℕ) → i + length x ≤ j → j ≤ length l → overwrite_at i x (overwrite_at j y l) ≡ overwrite_at j y (overwrite_at i x l)
lower_first i j x y l h k =
    let n : length (take j l) ≡ j = length-take-le j l k in
    let e : length (take j l) + 0 ≡ j = omega arith in
    rw (e, take-append-drop j l) at (front_and_behind i 0 x y (take j l) (drop j l) (omega arith))

-- two records
records_apart : (i j : ℕ) (x y l : List ℕ) → (i ≡ j → ⊥) → length x ≡ record_bytes → length y ≡ record_bytes
    → record_bytes * i ≤ length l → record_bytes * j ≤ length l
    → overwrite_at (record_bytes * i) x (overwrite_at (record_bytes * j) y l) ≡ overwrite_at (record_bytes * j) y (overwrite_at (record_bytes * i) x l)
records_apart i j x y l d e f h k =
    elim (dec_le i j) [
      | yes a ↦ lower_first (record_bytes * i) (record_bytes * j) x y l (omega (arith, d)) k
      | no a ↦ sym (lower_first (record_bytes * j) (record_bytes * i) y x l (omega arith) h)
    ]

-- a record and many, and many and many
module _ (n : ℕ) where
  written-size : (p : ℕ) (x l : List ℕ) → p < n → length x ≡ record_bytes → record_bytes * n ≤ length l → record_bytes * n ≤ length (overwrite_at (record_bytes * p) x l)
  written-size p x l h e k = omega (arith, length-overwrite_at (record_bytes * p) x l (omega arith))

  one_apart : (i : ℕ) (ps x y l : List ℕ) → Every (λ p. i ≡ p → ⊥) ps → i < n → Below n ps → length x ≡ record_bytes → length y ≡ record_bytes * length ps
      → record_bytes * n ≤ length l
      → overwrite_at (record_bytes * i) x (written_at ps y l) ≡ written_at ps y (overwrite_at (record_bytes * i) x l)
  unfolding written_at
  one_apart i [] x y l d h b e f k = refl
  one_apart i (p ∷ ps) x y l d h b e f k =
      let g = first_sized p ps y f in
      one_apart i ps x (drop record_bytes y) (overwrite_at (record_bytes * p) (take record_bytes y) l) d.1 h b.1 e g.1 (written-size p (take record_bytes y) l b.0 g.0 k)
      ∙ rw (records_apart i p x (take record_bytes y) l d.0 e g.0 (omega arith) (omega (arith, b.0)))

  pub many_apart : (ps qs x y l : List ℕ) → Every (λ p. Every (λ r. p ≡ r → ⊥) qs) ps → Below n ps → Below n qs
      → length x ≡ record_bytes * length ps → length y ≡ record_bytes * length qs → record_bytes * n ≤ length l
      → written_at ps x (written_at qs y l) ≡ written_at qs y (written_at ps x l)
  unfolding written_at
  many_apart [] qs x y l d a b e f k = refl
  many_apart (p ∷ ps) qs x y l d a b e f k =
      let g = first_sized p ps x e in
      rw (one_apart p qs (take record_bytes x) y l d.0 a.0 b g.0 f k)
      (many_apart ps qs (drop record_bytes x) y (overwrite_at (record_bytes * p) (take record_bytes x) l) d.1 a.1 b g.1 f (written-size p (take record_bytes x) l a.0 g.0 k))
