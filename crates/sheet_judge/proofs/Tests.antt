-- A test of a length divided by 40 is a test of the length, whether it is so many times 40, and the groups of n + 1 records.
-- Assumes nothing.
use mathlib.Core.Path.{◌≡◌, sym, ◌∙◌}
use Prim.Native.Nat.{ℕ, ◌+◌, ◌*◌, ◌/◌, ◌%◌}
use mathlib.Core.Bool.{not, ◌||◌}
use native.Mathlib.Decide.{dec_le, ℕ_discrete}
use native.Mathlib.Omega.{arith}
use lib.Dec.{leb, ltb, eqb}
use borrow.Author.Tests.{lt-ltb, le-ltb, le-leb, lt-leb, eq-eqb, ne_eqb}

pub at_most : (a n : ℕ) → leb (a / 40) n ≡ ltb a (40 * (n + 1))
at_most a n =
    elim (dec_le (a / 40) n) [
      | yes h ↦ le-leb (a / 40) n h ∙ sym (lt-ltb a (40 * (n + 1)) (omega arith))
      | no h ↦ lt-leb (a / 40) n (omega arith) ∙ sym (le-ltb a (40 * (n + 1)) (omega arith))
    ]

pub one_more : (n : ℕ) → n / 4 + n % 4 / 3 ≡ (n + 1) / 4
one_more n = omega arith

pub each_forty : (k a : ℕ) → (not (eqb (a / 40) k) || not (eqb (a % 40) 0)) ≡ not (eqb a (40 * k))
each_forty k a =
    elim (ℕ_discrete a (40 * k)) [
      | yes e ↦ rw (eq-eqb (a / 40) k (omega arith), eq-eqb (a % 40) 0 (omega arith), eq-eqb a (40 * k) e)
      | no e ↦ rw (ne_eqb a (40 * k) e) (elim (ℕ_discrete (a / 40) k) [
        | yes f ↦ rw (eq-eqb (a / 40) k f, ne_eqb (a % 40) 0 (λ g. e (omega arith)))
        | no f ↦ rw (ne_eqb (a / 40) k f)
      ])
    ]
