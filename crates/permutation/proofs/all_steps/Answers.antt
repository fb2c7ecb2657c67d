-- `permutation::all_steps` meets its contract. The loop's invariant: each lane, and the fifth block beside them, has i steps behind it.
-- Assumes nothing.
use Rattle.std.proofs.Common.{◌≡◌, refl, ap, ◌∙◌, add-one, arith}
use Rattle.definition.specs.Constant.{initial}
use Rattle.permutation.specs.Lanes.{lane, lanes_of, after, fifth_after, all_after}
use Rattle.permutation.proofs.Lanes.{from_lanes, lanes_after, stepped-after}
use Rattle.permutation.proofs.all_steps.Goals as goal

pub loop-init : goal.loop-init
unfolding lanes_after lanes_of after fifth_after
loop-init c = record { ends = omega arith; lanes = refl; fifth = refl }

pub step_lanes-requires : goal.step_lanes-requires
step_lanes-requires c = let l = c.loop in from_lanes l.counter _ _ l.invariant.lanes

pub loop-preserved : goal.loop-preserved
unfolding fifth_after
loop-preserved c =
    let l = c.loop in record {
      ends = omega arith;
      lanes = rw (add-one l.counter) (c.step_lanes.ensures ∙ stepped-after l.counter _ _ l.invariant.lanes);
      fifth = rw (add-one l.counter, ← l.invariant.fifth) c.step_fifth-e.ensures;
    }

pub returns : goal.returns
unfolding all_after lanes_after lanes_of initial
returns c =
    let l = c.loop in
    let e : l.counter ≡ 8 = omega arith in
    let v = rw e at l.invariant.lanes in
    λ i. record {
      h0 = ((c.lane.ensures ∙ ap (lane 0) v) i).a;
      h1 = ((c.lane-2.ensures ∙ ap (lane 1) v) i).a;
      h2 = ((c.lane-3.ensures ∙ ap (lane 2) v) i).a;
      h3 = ((c.lane-4.ensures ∙ ap (lane 3) v) i).a;
      h4 = ((rw e at l.invariant.fifth) i).a;
    }
