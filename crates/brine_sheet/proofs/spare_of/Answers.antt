-- `brine_sheet::spare_of` meets its contract: intake and capacity are far below 2 ^ 63, so the excess of one over the other and the spare,
-- which is its negation, fit.
-- Assumes nothing.
use mathlib.Core.Path.{◌≡◌, ◌∙◌, ap}
use Prim.Native.Nat.{ℕ, ◌*◌, ◌^◌, ◌<◌}
use native.Mathlib.Omega.{arith}
use borrow.Author.Tests.{eq-eqb, ne_eqb}
use lib.IntN.{ℤ, pos, neg_ℤ, ◌+ℤ◌, ◌-ℤ◌, neg_ℤ-+ℤ, neg_ℤ-neg_ℤ, +ℤ_idl, +ℤ_comm}
use lib.Signed.{mag}
use mir.Syntax.{w64}
use mir.Val.{SFits, to_z, of_z}
use mir.ValLaws.{to_z-of_z, to_z_pos}
use Rattle.plan_definition.specs.Rules.{injector}
use Rattle.brine_definition.specs.Page.{spare_of, row_when}
use Rattle.brine_definition.proofs.Spare.{by_minus}
use Rattle.brine_sheet.proofs.spare_of.Goals as goal

-- a difference lies no further from 0 than its two numbers
within : (a b k : ℕ) → a < k → b < k → mag (pos a -ℤ pos b) < k
within a b k h g = by_minus a b (λ z. mag z < k) (λ l. omega arith) (λ l. omega arith)

-- its negation is the difference the other way
turned : (a b : ℕ) → pos 0 -ℤ (pos a -ℤ pos b) ≡ pos b -ℤ pos a
turned a b =
    +ℤ_idl (neg_ℤ (pos a -ℤ pos b))
    ∙ neg_ℤ-+ℤ (pos a) (neg_ℤ (pos b))
    ∙ ap (λ z. neg_ℤ (pos a) +ℤ z) (neg_ℤ-neg_ℤ (pos b))
    ∙ +ℤ_comm (neg_ℤ (pos a)) (pos b)

-- what the machine computes, from the bits of an intake and a capacity
abbrev excess : (a b : ℕ) → ℤ
excess a b = to_z w64 a -ℤ to_z w64 b

abbrev negated : (a b : ℕ) → ℤ
negated a b = pos 0 -ℤ to_z w64 (of_z w64 (excess a b))

module _ (a b : ℕ) (h : a < 2 ^ 63) (g : b < 2 ^ 63) where
  excess_is : excess a b ≡ pos a -ℤ pos b
  excess_is = λ i. to_z_pos w64 a h i -ℤ to_z_pos w64 b g i

  excess_fits : SFits w64 (excess a b)
  excess_fits = rw excess_is (record { sfits = within a b (2 ^ 63) h g })

  negated_is : negated a b ≡ pos b -ℤ pos a
  negated_is = ap (λ z. pos 0 -ℤ z) (to_z-of_z w64 (excess a b) excess_fits ∙ excess_is) ∙ turned a b

  negated_fits : SFits w64 (negated a b)
  negated_fits = rw negated_is (record { sfits = within b a (2 ^ 63) g h })

pub returns-then-w-ne-INJECTOR : goal.returns-then-w-ne-INJECTOR
unfolding injector row_when
returns-then-w-ne-INJECTOR c = rw (ne_eqb c.args.w.kind 2 (λ e. omega arith))

pub overflow_sub-excess : goal.overflow_sub-excess
overflow_sub-excess c = rw c.from.ensures (excess_fits c.args.intake (1000 * c.args.w.rate) (omega arith) (omega arith))

pub overflow_sub-result : goal.overflow_sub-result
overflow_sub-result c = rw c.from.ensures (negated_fits c.args.intake (1000 * c.args.w.rate) (omega arith) (omega arith))

pub returns : goal.returns
unfolding injector row_when spare_of
returns c =
    let a = c.args in
    let fits = negated_fits a.intake (1000 * a.w.rate) (omega arith) (omega arith) in
    rw (eq-eqb a.w.kind 2 (omega arith), c.from.ensures)
    (to_z-of_z w64 (negated a.intake (1000 * a.w.rate)) fits ∙ negated_is a.intake (1000 * a.w.rate) (omega arith) (omega arith))
