-- `generator::turn_whole` meets its contract: the code has the shape of 4.4's equations.
-- Assumes nothing.
use Rattle.std.proofs.Common.{◌/◌, ◌^◌, rules, arith}
use Rattle.definition.specs.Constant.{f_l}
use Rattle.definition.proofs.Constant.{masks, f_64}
use Rattle.generator.proofs.Turns.{masks_out, rotated}
use Rattle.generator.proofs.turn_whole.Goals as goal

pub returns : goal.returns
unfolding f_l
returns c =
    let h = f_64 c.args.t (search rules) in
    rw (c.rotate_left.ensures, masks_out 64 (c.args.t / 2 ^ 63) 0xc4d6496c55c61c8d (omega arith) (omega arith), ← masks) (rotated (f_l c.args.t) h)
