-- `rounds::last::high_bits` meets its contract: shifted out and back, the low bits are zero; more odd bits than seven are the whole byte.
-- Assumes nothing.
use Rattle.std.proofs.Common.{◌≡◌, ℕ, zero, suc, ◌-◌, ◌*◌, ◌/◌, ◌^◌, sym, refl, ◌∙◌, arith}
use lib.Pow.{split}
use Rattle.definition.specs.Padding.{high_bits}
use Rattle.rounds.proofs.last.high_bits.Goals as goal

-- the definition's second case, by what is shifted out
shifted : (o b : ℕ) → (o ≡ 0 → ⊥) → high_bits o b ≡ b / 2 ^ (8 - o) * 2 ^ (8 - o)
unfolding high_bits
shifted zero b h = absurd (h refl)
shifted (suc o) b h = let e : 8 - suc o ≡ 7 - o = omega arith in rw e

pub returns-in-0 : goal.returns-in-0
unfolding high_bits
returns-in-0 c = rw c.in-0.is

pub returns-in-1-to-7 : goal.returns-in-1-to-7
returns-in-1-to-7 c =
    let a = c.args in
    rw (shifted a.odd a.byte (λ e. omega arith)) (omega (arith, split a.byte (8 - a.odd)))

pub returns-in_default : goal.returns-in_default
returns-in_default c =
    let a = c.args in
    let e : 8 - a.odd ≡ 0 = omega arith in
    sym (shifted a.odd a.byte (λ e. omega arith) ∙ rw e (omega arith))
