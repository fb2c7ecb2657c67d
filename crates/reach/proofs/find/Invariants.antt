-- The invariants of `reach::find`.
use mathlib.Core.Path.{◌≡◌}
use Rattle.plan_definition.specs.Some.{some}
use Rattle.plan_definition.specs.Rules.{has_number}
use Rattle.plan_definition.proofs.Places.{left}
use Rattle.plan.specs.Sets.{count_of, wells_of}
use Rattle.reach.proofs.find.Given as goal

-- the wells left decide
abbrev pub invariant-loop-i : goal.invariant-loop-i
invariant-loop-i l = some (has_number l.well) (left l.i (count_of l.records) l.records) ≡ some (has_number l.well) (wells_of l.records)
