-- What two conditions joined say of each, what a condition says that fails exactly at a statement, and a test of a length divided.
-- Assumes nothing.
use mathlib.Core.Path.{◌≡◌, refl, sym, ◌∙◌}
use mathlib.Core.Logic.{◌↔◌}
use mathlib.Core.Bool.{Bool, true, false, ◌&&◌, ◌||◌, false≢true}
use Prim.Native.Nat.{ℕ, ◌*◌, ◌/◌, ◌<◌}
use native.Mathlib.Decide.{dec_lt}
use native.Mathlib.Nat.{mul_comm, div-lt_iff_lt-mul}
use native.Mathlib.Omega.{arith}
use lib.Dec.{T, ltb}
use borrow.Author.Tests.{lt-ltb, le-ltb}

-- both hold, as tests that pass
pub both_left : (a b : Bool) → T (a && b) → T a
both_left true b t = tt
both_left false b t = t

pub both_right : (a b : Bool) → T (a && b) → T b
both_right true b t = t
both_right false b t = absurd t

-- and as equations
pub both_true : (a b : Bool) → (a && b) ≡ true → (a ≡ true) × (b ≡ true)
both_true true b e = (refl, e)
both_true false b e = absurd (false≢true e)

-- neither holds
pub either_false : (a b : Bool) → (a || b) ≡ false → (a ≡ false) × (b ≡ false)
either_false true b e = absurd (false≢true (sym e))
either_false false b e = (refl, e)

-- a condition that fails exactly at A holds exactly where A doesn't
pub other_way : {A : Type 0} (b : Bool) → (b ≡ false) ↔ A → (b ≡ true) ↔ (A → ⊥)
other_way true i = (λ e a. false≢true (sym (i.1 a)), λ f. refl)
other_way false i = (λ e. absurd (false≢true e), λ f. absurd (f (i.0 refl)))

-- a length divided by d is below n where the length is below d times n: so a call judges without a product that could wrap
pub divided : (d a n : ℕ) → 0 < d → ltb (a / d) n ≡ ltb a (d * n)
divided d a n h =
    elim (dec_lt (a / d) n) [
      | yes p ↦ lt-ltb (a / d) n p ∙ sym (lt-ltb a (d * n) (rw (mul_comm d n) ((div-lt_iff_lt-mul h).0 p)))
      | no p ↦ le-ltb (a / d) n (omega arith) ∙ sym (le-ltb a (d * n) (elim (dec_lt a (d * n)) [
        | yes q ↦ absurd (p ((div-lt_iff_lt-mul h).1 (rw (mul_comm d n) at q)))
        | no q ↦ omega arith
      ]))
    ]
