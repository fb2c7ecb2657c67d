-- `injection_back::times` meets its contract. The loop's invariant: the block times the constant's i highest bits of eight.
-- Assumes nothing.
use mathlib.Core.Path.{◌≡◌, refl, ◌∙◌}
use Prim.Native.Nat.{ℕ, suc, ◌+◌, ◌-◌, ◌/◌, ◌%◌, ◌^◌, ◌<◌}
use native.Mathlib.Nat.{div-one}
use native.Mathlib.Omega.{arith}
use lib.Pow.{shr-shr}
use Rattle.definition.specs.declared.Block.{Block}
use Rattle.definition.specs.Block.{◌⊕◌}
use Rattle.definition.specs.Field.{double, keep, times_to, times as times_of}
use Rattle.injection_back.proofs.times.Goals as goal

-- one bit more
bit_more : (i c : ℕ) (b r : Block) → i < 8 → r ≡ times_to (8 - (i + 1)) (c / 2 ^ (i + 1)) b → keep (c / 2 ^ i % 2) b ⊕ double r ≡ times_to (8 - i) (c / 2 ^ i) b
unfolding times_to
bit_more i c b r h e =
    let n : 8 - i ≡ suc (8 - (i + 1)) = omega arith in
    rw (n, shr-shr c i 1, e)

pub loop-i-init : goal.loop-i-init
unfolding times_to
loop-i-init c = (omega arith, refl)

pub loop-i-preserved : goal.loop-i-preserved
loop-i-preserved c =
    let l = c.loop-i in
    let e : l.i - 1 + 1 ≡ l.i = omega (arith, c.loop-i-test.true) in
    (omega arith, c.added-r.ensures ∙ rw c.double.ensures (bit_more (l.i - 1) _ _ _ (omega (arith, c.loop-i-test.true)) (rw e l.invariant.1)))

pub returns : goal.returns
unfolding times_of
returns c =
    let l = c.loop-i in
    let e : l.i ≡ 0 = omega (arith, c.loop-i-test.false) in
    rw (e, div-one) at l.invariant.1
