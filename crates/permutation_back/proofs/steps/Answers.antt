-- `permutation_back::steps` meets its contract. The loop's invariant: the last i steps are undone, and the generator has come back before them.
-- Assumes nothing.
use Rattle.std.proofs.Common.{◌≡◌, refl, rules, arith}
use Rattle.definition.specs.Constant.{constants_from}
use Rattle.generator.specs.Turns.{applied}
use Rattle.back_definition.specs.Step.{steps_back}
use Rattle.permutation_back.proofs.Generator.{once_more}
use Rattle.permutation_back.proofs.steps.Goals as goal

pub loop-init : goal.loop-init
unfolding constants_from steps_back
loop-init c = (omega arith, c.ended-t.ensures, refl)

pub loop-preserved : goal.loop-preserved
loop-preserved c =
    let l = c.loop in
    let given = once_more l.counter c.args.start l.t _ _ _ _ _ (search rules) (omega arith) l.invariant.1 l.invariant.2 c.turn_back-t1.ensures c.turn_back-t.ensures
    (rw (c.right.ensures, c.right-in-loop.ensures) at c.step-a.ensures) in
    (omega arith, given.0, given.1)

pub returns : goal.returns
unfolding applied
returns c =
    let l = c.loop in
    let e : l.counter ≡ 8 = omega arith in
    rw (l.invariant.1, e) at l.invariant.2
