-- `injection_back::added` meets its contract: a bit times a block, and the rest.
-- Assumes nothing.
use mathlib.Core.Path.{◌≡◌, sym, ◌∙◌}
use Prim.Native.Nat.{ℕ, ◌%◌}
use native.Mathlib.Omega.{arith}
use Rattle.definition.specs.declared.Block.{Block}
use Rattle.definition.specs.Block.{◌⊕◌}
use Rattle.definition.specs.Field.{keep}
use Rattle.definition.proofs.Xor.{zero-⊕}
use Rattle.injection_back.proofs.added.Goals as goal

-- the block or none, by the bit
with_it : (n : ℕ) (b t : Block) → n % 2 ≡ 1 → b ⊕ t ≡ keep (n % 2) b ⊕ t
unfolding keep
with_it n b t e = rw e

without : (n : ℕ) (b t : Block) → (n % 2 ≡ 1 → ⊥) → t ≡ keep (n % 2) b ⊕ t
unfolding keep
without n b t h =
    let e : n % 2 ≡ 0 = omega (arith, h) in
    rw e (sym (zero-⊕ t))

pub returns-then-bits-eq1 : goal.returns-then-bits-eq1
returns-then-bits-eq1 c = c.bitxor.ensures ∙ with_it _ _ _ c.if-bits-eq1.true

pub returns-else-bits-eq1 : goal.returns-else-bits-eq1
returns-else-bits-eq1 c = without _ _ _ c.if-bits-eq1.false
