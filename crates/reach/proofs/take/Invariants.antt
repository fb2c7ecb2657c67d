-- The invariants of `reach::take`.
use mathlib.Core.Path.{◌≡◌}
use mathlib.Core.Bool.{◌||◌}
use Prim.Native.Nat.{ℕ}
use lib.ListN.{drop}
use Rattle.plan_definition.specs.Some.{some}
use Rattle.plan_numbers.specs.Numbers.{has}
use Rattle.reach_definition.specs.Reach.{names}
use Rattle.reach.proofs.take.Given as goal

-- what the links left name and what is in the set are all
abbrev pub invariant-loop-l : goal.invariant-loop-l
invariant-loop-l l = (j : ℕ) → (some (names j) (drop l.l-index l.links) || has l.taken j) ≡ (some (names j) l.links || has l.initial.taken j)
