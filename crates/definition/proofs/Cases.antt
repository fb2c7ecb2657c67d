-- A rule over a few bits, or over the numbers below a bound, proved by one test that antt computes over all cases; and an equation of
-- lists by a test.
-- Assumes nothing.
use mathlib.Core.Path.{◌≡◌, refl}
use mathlib.Core.Bool.{Bool, true, ◌&&◌}
use mathlib.Core.List.{List, [], ◌∷◌}
use Prim.Native.Nat.{ℕ, zero, suc, ◌<◌}
use native.Mathlib.Nat.{not-suc-le-zero, le_of_suc-le-suc}
use lib.Dec.{T, eqb, eqb→eq}
use Rattle.definition.specs.Buffer.{same}
use Rattle.definition.proofs.Conditions.{both_left, both_right}

-- a list of n bits
pub data Bits : ℕ → List ℕ → Type 0 where
  none : Bits 0 []
  more : {b n : ℕ} {bs : List ℕ} → b < 2 → Bits n bs → Bits (suc n) (b ∷ bs)

-- the test passes at each list of n bits
abbrev pub every_bits : ℕ → (List ℕ → Bool) → Bool
every_bits zero f = f []
every_bits (suc n) f = every_bits n (λ bs. f (0 ∷ bs)) && every_bits n (λ bs. f (1 ∷ bs))

pub at_bits : {n : ℕ} {bs : List ℕ} (f : List ℕ → Bool) → T (every_bits n f) → Bits n bs → T (f bs)
at_bits f t none = t
at_bits f t (more {b = zero} {n = n} h r) =
    at_bits (λ bs. f (0 ∷ bs)) (both_left (every_bits n (λ bs. f (0 ∷ bs))) (every_bits n (λ bs. f (1 ∷ bs))) t) r
at_bits f t (more {b = suc zero} {n = n} h r) =
    at_bits (λ bs. f (1 ∷ bs)) (both_right (every_bits n (λ bs. f (0 ∷ bs))) (every_bits n (λ bs. f (1 ∷ bs))) t) r
at_bits f t (more {b = suc (suc b)} h r) = absurd (not-suc-le-zero (le_of_suc-le-suc (le_of_suc-le-suc h)))

-- the test passes at each number below n
abbrev pub every_below : ℕ → (ℕ → Bool) → Bool
every_below zero f = true
every_below (suc n) f = f 0 && every_below n (λ k. f (suc k))

pub at_below : (n : ℕ) (f : ℕ → Bool) → T (every_below n f) → (k : ℕ) → k < n → T (f k)
at_below zero f t k h = absurd (not-suc-le-zero h)
at_below (suc n) f t zero h = both_left (f 0) (every_below n (λ k. f (suc k))) t
at_below (suc n) f t (suc k) h =
    at_below n (λ k. f (suc k)) (both_right (f 0) (every_below n (λ k. f (suc k))) t) k (le_of_suc-le-suc h)

-- two lists that pass the test are equal
pub same→eq : (xs ys : List ℕ) → T (same xs ys) → xs ≡ ys
same→eq [] [] t = refl
same→eq [] (y ∷ ys) t = absurd t
same→eq (x ∷ xs) [] t = absurd t
same→eq (x ∷ xs) (y ∷ ys) t =
    rw (eqb→eq x y (both_left (eqb x y) (same xs ys) t), same→eq xs ys (both_right (eqb x y) (same xs ys) t))
