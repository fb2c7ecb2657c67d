-- `plan_places::put` meets its contract. The loop's invariant: the places passed are in the entries.
-- Assumes nothing.
use mathlib.Core.Path.{refl}
use native.Mathlib.Numerals.{add-one}
use Rattle.plan_places.specs.Places.{placed}
use Rattle.plan_places.proofs.put.Goals as goal

pub loop-i-init : goal.loop-i-init
unfolding placed
loop-i-init c = refl

pub loop-i-preserved : goal.loop-i-preserved
unfolding placed
loop-i-preserved c =
    let l = c.loop-i in
    rw (add-one l.i, c.from.ensures, c.read-w.ensures, l.invariant)
