-- Two tests as one: an OR that is zero, and comparisons that hold at the same numbers.
-- Assumes nothing.
use Rattle.std.proofs.Common.{◌≡◌, ℕ, zero, suc, ◌≤◌, ◌&&◌, eqb, leb, arith, ne_eqb, le-leb}
use native.Mathlib.Decide.{dec_le}
use borrow.Author.Tests.{lt-leb}
use lib.Bits.{bit_or, or_zero_l, or_add_and, and_le_r}

-- the OR of two numbers is zero where both are
pub or_zero : (a b : ℕ) → eqb (bit_or a b) 0 ≡ eqb a 0 && eqb b 0
or_zero zero b = rw or_zero_l
or_zero (suc a) b =
    rw (ne_eqb (suc a) 0 (λ e. omega arith), ne_eqb (bit_or (suc a) b) 0 (λ e. omega (arith, or_add_and (suc a) b, and_le_r (suc a) b)))

-- two comparisons of which each says the other
pub le_same : (a b c d : ℕ) → (a ≤ b → c ≤ d) → (c ≤ d → a ≤ b) → leb a b ≡ leb c d
le_same a b c d f g =
    elim (dec_le a b) [
      | yes h ↦ rw (le-leb a b h, le-leb c d (f h))
      | no h ↦ rw (lt-leb a b (omega arith), lt-leb c d (other (λ k. h (g k))))
    ]
  where
    other : (c ≤ d → ⊥) → suc d ≤ c
    other n = omega arith
