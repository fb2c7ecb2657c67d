-- The invariants of `permutation_back::steps`.
use Rattle.std.proofs.Common.{◌≡◌, ◌-◌, ◌*◌, ◌≤◌}
use Rattle.definition.specs.Constant.{constants_from}
use Rattle.generator.specs.Turns.{applied}
use Rattle.back_definition.specs.Step.{steps_back}
use Rattle.permutation_back.proofs.steps.Given as goal

abbrev pub invariant-loop : goal.invariant-loop
invariant-loop l =
    (l.counter ≤ 8)
    × (l.t ≡ applied (2 * (8 - l.counter)) l.start)
    × (l.a ≡ steps_back (constants_from l.counter l.t) l.initial.a)
