-- The invariants of `injection_back::times`.
use mathlib.Core.Path.{◌≡◌}
use Prim.Native.Nat.{◌-◌, ◌/◌, ◌^◌, ◌≤◌}
use Rattle.definition.specs.Field.{times_to}
use Rattle.injection_back.proofs.times.Given as goal

abbrev pub invariant-loop-i : goal.invariant-loop-i
invariant-loop-i l = (l.i ≤ 8) × (l.r ≡ times_to (8 - l.i) (l.c / 2 ^ l.i) l.b)
