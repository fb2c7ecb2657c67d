-- `permutation::step_lanes` meets its contract. The loop's invariant: the first j lanes are stepped, one after the other.
-- Assumes nothing.
use Rattle.std.proofs.Common.{◌≡◌, ℕ, refl, ap, ◌∙◌, add-one, arith, rules}
use Rattle.permutation.specs.Lanes.{lane}
use Rattle.permutation.proofs.Lanes.{run_lanes, all_lanes}
use Rattle.permutation.proofs.step_lanes.Goals as goal

pub loop-j-init : goal.loop-j-init
unfolding run_lanes
loop-j-init c = (search rules, refl)

pub loop-j-preserved : goal.loop-j-preserved
unfolding run_lanes
loop-j-preserved c =
    let j = c.loop-j.j in
    (omega arith, rw (add-one j, ← c.loop-j.invariant.1, c.put_lane.ensures, c.go_on-g.ensures, c.lane.ensures))

pub returns : goal.returns
returns c =
    let a = c.args in
    let l = c.loop-j in
    let e : l.j ≡ 4 = omega arith in
    let v = a.v.now in
    l.invariant.1 ∙ ap (λ (n : ℕ). run_lanes n v) e
    ∙ (rw (← c.requires) at (all_lanes (lane 0 v) (lane 1 v) (lane 2 v) (lane 3 v)))
