-- The invariants of `plan_places::put`.
use mathlib.Core.Path.{◌≡◌}
use Rattle.plan_places.specs.Places.{placed}
use Rattle.plan_places.proofs.put.Given as goal

abbrev pub invariant-loop-i : goal.invariant-loop-i
invariant-loop-i l = l.t ≡ placed l.sheet l.i l.initial.t
