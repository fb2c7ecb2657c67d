-- The invariants of `plan::first_broken`.
use mathlib.Core.Path.{◌≡◌}
use Prim.Native.Nat.{ℕ}
use Rattle.plan_definition.specs.Rules.{is_before}
use Rattle.plan_definition.specs.Check.{first_fault}
use Rattle.plan_definition.proofs.Places.{left}
use Rattle.plan_numbers.specs.Numbers.{has}
use Rattle.plan.specs.Sets.{count_of, wells_of}
use Rattle.plan.proofs.first_broken.Given as goal

abbrev pub invariant-loop-i : goal.invariant-loop-i
invariant-loop-i l =
    ((k : ℕ) → has l.seen k ≡ is_before (wells_of l.records) l.i k)
    × (first_fault (wells_of l.records) (left l.i (count_of l.records) l.records) ≡ first_fault (wells_of l.records) (wells_of l.records))
