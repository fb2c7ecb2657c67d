-- The invariants of `sheet_close_up::gather`.
use mathlib.Core.Path.{◌≡◌}
use Prim.Native.Nat.{◌≤◌}
use lib.ListN.{length}
use Rattle.sheet_close_up.proofs.Moved.{Gathered}
use Rattle.sheet_close_up.proofs.gather.Given as goal

abbrev pub invariant-loop-i : goal.invariant-loop-i
invariant-loop-i l = (l.count ≤ l.i) × (length l.sheet ≡ length l.initial.sheet) × Gathered l.initial.sheet l.initial.places l.i l.sheet l.places l.count
