-- `brine_sheet::send` meets its contract. The loop's invariant: what is there and what is left to bring are the whole.
-- Assumes nothing.
use mathlib.Core.Path.{◌∙◌}
use Prim.Native.Nat.{◌*◌}
use native.Mathlib.Omega.{arith}
use lib.ListN.{length-set, drop_of_length-le}
use Rattle.brine_sheet.specs.Sent.{brought_to, Added}
use Rattle.brine_sheet.proofs.Sends.{put_more, leads_below, next_brings, brings_fit}
use Rattle.brine_sheet.proofs.send.Goals as goal

pub loop-l-preserved : goal.loop-l-preserved
loop-l-preserved c =
    let l = c.loop-l in
    let there = leads_below _ 0 _ _ (omega arith) c.at-p.ensures c.from.ensures _ _ c.requires.0 l.invariant.long in
    record {
      long = length-set l.intake c.at-p.result _ ∙ l.invariant.long;
      whole = λ q. omega (
        arith,
        next_brings c.args.places.now c.args.rate c.args.links.now l.l-index (omega arith) c.at-p.ensures c.from.ensures q _ _ (l.invariant.whole q),
        put_more l.intake c.at-p.result (c.args.rate * c.from.result) q there,
      );
    }

pub bounds-intake-p : goal.bounds-intake-p
bounds-intake-p c =
    leads_below _ 0 _ _ (omega arith) c.at-p.ensures c.from.ensures _ _ c.requires.0 c.loop-l.invariant.long

pub bounds-intake-p-in-loop-l : goal.bounds-intake-p-in-loop-l
bounds-intake-p-in-loop-l c =
    leads_below _ 0 _ _ (omega arith) c.at-p.ensures c.from.ensures _ _ c.requires.0 c.loop-l.invariant.long

pub overflow_mul-intake : goal.overflow_mul-intake
overflow_mul-intake c =
    let l = c.loop-l in
    omega (arith, brings_fit _ c.args.rate _ _ (omega arith) c.at-p.ensures c.from.ensures l.intake _ c.requires.0 l.invariant.long c.requires.1 (l.invariant.whole _))

pub overflow_add-intake : goal.overflow_add-intake
overflow_add-intake c =
    let l = c.loop-l in
    omega (arith, brings_fit _ c.args.rate _ _ (omega arith) c.at-p.ensures c.from.ensures l.intake _ c.requires.0 l.invariant.long c.requires.1 (l.invariant.whole _))

pub returns : goal.returns
unfolding Added brought_to
returns c =
    let l = c.loop-l in
    λ q. omega (arith, rw (drop_of_length-le c.args.links.now {i = l.l-index} (omega arith)) at (l.invariant.whole q))
