-- The invariants of `plan_rules::links_break`.
use mathlib.Core.Path.{◌≡◌}
use lib.ListN.{drop}
use Rattle.plan_definition.specs.Rules.{misnamed}
use Rattle.plan_numbers.specs.Numbers.{has}
use Rattle.plan_rules.proofs.links_break.Given as goal

-- what is left decides
abbrev pub invariant-loop-k : goal.invariant-loop-k
invariant-loop-k l = misnamed (has l.injectors) (drop l.k l.used) ≡ misnamed (has l.injectors) l.used
