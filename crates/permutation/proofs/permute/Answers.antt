-- `permutation::permute` meets its contract: the tweaks, eight steps, and the blocks that w uses.
-- Assumes nothing.
use Rattle.std.proofs.Common.{◌≡◌, refl, arith}
use denote.Enum.Bare.{sameb}
use Rattle.definition.specs.contracts.Width.{the_type}
use Rattle.definition.specs.declared.Width.{Width}
use Rattle.definition.specs.declared.Width.TheVariants.{W3, W4, W5}
use Rattle.permutation.specs.Lanes.{has_fifth}
use Rattle.permutation.proofs.Lanes.{tweak-zero, all_permuted}
use Rattle.permutation.proofs.permute.Goals as goal

fifth : (w : Width) → sameb the_type w W5 ≡ has_fifth w
fifth W3 = refl
fifth W4 = refl
fifth W5 = refl

pub returns : goal.returns
returns c =
    let s = c.args.s in
    let good = c.well_formed.1.0 in
    let zero =
    tweak-zero s.h0 (omega (arith, good)) (omega (arith, good)) (omega (arith, good)) (omega (arith, good)) in
    simp (
      c.used.ensures,
      c.all_steps.ensures,
      c.eq.ensures,
      fifth c.args.w,
      c.tweak-4.ensures,
      c.tweak-3.ensures,
      c.tweak-2.ensures,
      c.tweak.ensures,
    )
    (all_permuted c.args.w s zero)
