-- `injection::inject` meets its contract: what its callees ensure makes Appendix E's forms, which give the matrix. Blocks of zeros add nothing.
-- Assumes nothing.
use mathlib.Core.Path.{refl}
use Rattle.definition.specs.declared.Width.TheVariants.{W3, W4, W5}
use Rattle.definition.specs.AppendixE.{power, xor_to, η, ξ, without_message, forms, value, appendix_e}
use Rattle.definition.specs.Width.{block_count}
use Rattle.definition.specs.State.{five, blocks_in, state_of}
use Rattle.definition.proofs.Injection.{forms-inject}
use Rattle.definition.proofs.Xor.{⊕-zero}
use Rattle.injection.proofs.inject.Goals as goal

pub returns-in-W3 : goal.returns-in-W3
unfolding blocks_in five block_count state_of appendix_e value forms without_message ξ η xor_to power
returns-in-W3 c =
    rw (c.in-W3.is, ← forms-inject W3 (blocks_in W3 c.args.s) c.args.m refl)
    (simp (c.used-in-W3.ensures, c.bitxor.ensures, c.multiples.ensures, c.spread.ensures, c.used.ensures, ⊕-zero))

pub returns-in-W4 : goal.returns-in-W4
unfolding blocks_in five block_count state_of appendix_e value forms without_message ξ η xor_to power
returns-in-W4 c =
    rw (c.in-W4.is, ← forms-inject W4 (blocks_in W4 c.args.s) c.args.m refl)
    (simp (
      c.used-in-W4-2.ensures,
      c.bitxor-in-W4-2.ensures,
      c.multiples-in-W4.ensures,
      c.bitxor-in-W4.ensures,
      c.before-in-W4.ensures,
      c.twice.ensures,
      c.spread-e.ensures,
      c.used-in-W4.ensures,
      ⊕-zero,
    ))

pub returns-in-W5 : goal.returns-in-W5
unfolding blocks_in five block_count state_of appendix_e value forms without_message ξ η xor_to power
returns-in-W5 c =
    rw (c.in-W5.is, ← forms-inject W5 (blocks_in W5 c.args.s) c.args.m refl)
    (simp (
      c.bitxor-in-W5-2.ensures,
      c.multiples-ms.ensures,
      c.bitxor-in-W5.ensures,
      c.before-in-W5.ensures,
      c.twice-in-W5-2.ensures,
      c.bitxor-x.ensures,
      c.after.ensures,
      c.twice-in-W5.ensures,
      c.spread-e-in-W5.ensures,
    ))
