-- `permutation_back::ended` meets its contract. The loop's invariant: i applications.
-- Assumes nothing.
use Rattle.std.proofs.Common.{◌≡◌, refl, add-one, arith}
use Rattle.generator.specs.Turns.{applied}
use Rattle.permutation_back.proofs.ended.Goals as goal

pub loop-init : goal.loop-init
unfolding applied
loop-init c = (omega arith, refl)

pub loop-preserved : goal.loop-preserved
unfolding applied
loop-preserved c =
    let l = c.loop in
    (omega arith, rw (add-one l.counter, ← l.invariant.1) c.turn_whole-t.ensures)

pub returns : goal.returns
returns c =
    let l = c.loop in
    let e : l.counter ≡ 16 = omega arith in
    rw e at l.invariant.1
