-- `hash_kept::whole` meets its contract: the two cases of the definition, and no byte is no whole one.
-- Assumes nothing.
use Rattle.std.proofs.Common.{◌≡◌, ℕ, zero, suc, ◌-◌, refl, arith}
use Rattle.definition.specs.Padding.{whole_bytes}
use Rattle.hash_kept.proofs.whole.Goals as goal

with_odd : (o n : ℕ) → (o ≡ 0 → ⊥) → whole_bytes o n ≡ n - 1
unfolding whole_bytes
with_odd zero n h = absurd (h refl)
with_odd (suc o) n h = refl

pub returns-then-odd-eq0 : goal.returns-then-odd-eq0
unfolding whole_bytes
returns-then-odd-eq0 c = rw c.if-odd-eq0.true

pub returns-then-n-eq0 : goal.returns-then-n-eq0
returns-then-n-eq0 c = rw (with_odd _ _ c.if-odd-eq0.false) (omega arith)

pub returns : goal.returns
returns c = rw (with_odd _ _ c.if-odd-eq0.false)
