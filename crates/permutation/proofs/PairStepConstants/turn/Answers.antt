-- The two words' `turn` meets its contract: the code has the shape of 4.4's pseudo code.
-- Assumes nothing.
use Rattle.std.proofs.Common.{ℕ, ◌/◌, ◌^◌, ◌<◌, arith}
use Rattle.definition.specs.AppendixB.{pseudo_step}
use Rattle.generator.proofs.Turns.{masks_out}
use Rattle.permutation.proofs.PairStepConstants.turn.Goals as goal

pub returns : goal.returns
unfolding pseudo_step
returns c =
    let b : ℕ = c.args.self.left / 2 ^ 31 in
    let two : b < 2 = omega arith in
    rw (masks_out 32 b 0x55c61c8d two (omega arith), masks_out 32 b 0xc4d6496c two (omega arith))
