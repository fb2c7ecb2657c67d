-- The invariants of `reach::mark`.
use mathlib.Core.Bool.{Bool}
use mathlib.Core.List.{List}
use Prim.Native.Nat.{ℕ}
use Rattle.plan_definition.proofs.Places.{well_at}
use Rattle.plan_numbers.specs.Numbers.{has}
use Rattle.reach.specs.Sets.{touches}
use Rattle.reach.proofs.Steps.{Upto}
use Rattle.reach.proofs.mark.Given as goal

-- whether the set touches the well at a place
abbrev pub test : (records taken : List ℕ) → (kind : ℕ) → ℕ → Bool
test records taken kind q = touches (has taken) kind (well_at q records)

-- the bytes passed are marked where the set touches their wells
abbrev pub invariant-loop-i : goal.invariant-loop-i
invariant-loop-i l = Upto (test l.records l.taken l.kind) l.i l.initial.reached l.reached
