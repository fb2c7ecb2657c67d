-- Spare capacity over the integers: with the intake it is 1000 times the rate, it is below zero exactly where the intake is more, and it is
-- no larger than either.
-- Assumes nothing.
use mathlib.Core.Path.{◌≡◌, refl}
use mathlib.Core.Bool.{Bool, true, false, cond}
use Prim.Native.Nat.{ℕ, zero, suc, ◌+◌, ◌-◌, ◌*◌, ◌<◌, ◌≤◌}
use native.Mathlib.Omega.{arith}
use lib.Dec.{ltb}
use lib.IntN.{ℤ, pos, negsuc, ◌+ℤ◌, ◌-ℤ◌, -ℤ-+ℤ_cancel}
use lib.Signed.{mag}
use borrow.Author.Tests.{ltb-true, ltb-false, le-ltb, lt-ltb}
use Rattle.plan_definition.proofs.Exactly.{Passes, less}
use Rattle.brine_definition.specs.Page.{spare_of}
use Rattle.brine_definition.specs.Statement.{below_zero}

-- a number less another: what holds of either sign's outcome
pub by_minus : (a b : ℕ) (P : ℤ → Type 0) → (b ≤ a → P (pos (a - b))) → (a < b → P (negsuc (b - suc a))) → P (pos a -ℤ pos b)
by_minus a zero P f g = let e : a + 0 ≡ a - 0 = omega arith in rw e (f (omega arith))
by_minus a (suc b) P f g = go (ltb a (suc b)) refl
  where
    go : (t : Bool) → ltb a (suc b) ≡ t → P (cond t (negsuc (suc b - suc a)) (pos (a - suc b)))
    go true e = g (ltb-true a (suc b) e)
    go false e = f (ltb-false a (suc b) e)

module _ (rate intake : ℕ) where
  -- spare and intake make up 1000 times the rate
  pub spare_and_intake : spare_of rate intake +ℤ pos intake ≡ pos (1000 * rate)
  unfolding spare_of
  spare_and_intake = -ℤ-+ℤ_cancel (pos (1000 * rate)) (pos intake)

  -- the test for a spare below zero is the one for an intake over it
  pub spare_below : below_zero (spare_of rate intake) ≡ ltb (1000 * rate) intake
  unfolding spare_of below_zero
  spare_below =
      by_minus (1000 * rate) intake (λ z. below_zero z ≡ ltb (1000 * rate) intake)
      (λ h. rw (le-ltb (1000 * rate) intake h, le-ltb (1000 * rate - intake) 0 (omega arith)))
      (λ h. rw (lt-ltb (1000 * rate) intake h))

  pub overloaded_exactly : Passes (below_zero (spare_of rate intake)) (1000 * rate < intake)
  overloaded_exactly = rw spare_below (less (1000 * rate) intake)

  -- and it is within any bound of both
  pub spare-within : {m : ℕ} → 1000 * rate ≤ m → intake ≤ m → mag (spare_of rate intake) ≤ m
  unfolding spare_of
  spare-within {m} h k = by_minus (1000 * rate) intake (λ z. mag z ≤ m) (λ l. omega arith) (λ l. omega arith)
