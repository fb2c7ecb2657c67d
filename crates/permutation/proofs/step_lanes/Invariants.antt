-- The invariants of `permutation::step_lanes`.
use Rattle.std.proofs.Common.{◌≡◌, ◌-◌, ◌≤◌}
use Rattle.permutation.proofs.Lanes.{run_lanes}
use Rattle.permutation.proofs.step_lanes.Given as goal

abbrev pub invariant-loop-j : goal.invariant-loop-j
invariant-loop-j l = (l.j ≤ 4) × (l.v ≡ run_lanes l.j l.initial.v)

abbrev pub decreases-loop-j : goal.decreases-loop-j
decreases-loop-j l = 4 - l.j
