-- The invariants of `plan::put_injectors`.
use mathlib.Core.Path.{◌≡◌}
use mathlib.Core.Bool.{◌||◌}
use Prim.Native.Nat.{ℕ}
use Rattle.plan_definition.specs.Rules.{is_injector_of}
use Rattle.plan_definition.proofs.Places.{left}
use Rattle.plan_numbers.specs.Numbers.{has}
use Rattle.plan.specs.Sets.{count_of, wells_of}
use Rattle.plan.proofs.put_injectors.Given as goal

abbrev pub invariant-loop-i : goal.invariant-loop-i
invariant-loop-i l = (k : ℕ) → (is_injector_of (left l.i (count_of l.records) l.records) k || has l.t k) ≡ (is_injector_of (wells_of l.records) k || has l.initial.t k)
