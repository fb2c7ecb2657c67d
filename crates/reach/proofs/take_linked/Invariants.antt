-- The invariants of `reach::take_linked`.
use mathlib.Core.Path.{◌≡◌}
use mathlib.Core.Bool.{◌||◌}
use Prim.Native.Nat.{ℕ}
use lib.ListN.{length}
use Rattle.plan_definition.specs.Some.{some}
use Rattle.plan_definition.specs.Well.{wells}
use Rattle.plan_definition.proofs.Places.{left}
use Rattle.plan_numbers.specs.Numbers.{has}
use Rattle.reach.specs.Sets.{linked_from}
use Rattle.reach.proofs.take_linked.Given as goal

-- what the wells left link and what is in the set are all
abbrev pub invariant-loop-i : goal.invariant-loop-i
invariant-loop-i l =
    let n = length l.reached in
    (k : ℕ) → (some (linked_from l.reached k) (left l.i n l.records) || has l.taken k) ≡ (some (linked_from l.reached k) (wells n l.records) || has l.initial.taken k)
