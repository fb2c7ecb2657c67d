-- The invariants of `brine_sheet::settle`.
use mathlib.Core.Path.{◌≡◌}
use Prim.Native.Nat.{ℕ, ◌<◌}
use lib.IntN.{pos}
use lib.ListN.{get_or}
use Rattle.brine_definition.specs.Said.{row_at}
use Rattle.plan.specs.Sets.{count_of}
use Rattle.brine_sheet.proofs.settle.Given as goal

-- the spares passed are their rows'
abbrev pub invariant-loop-i : goal.invariant-loop-i
invariant-loop-i l = (q : ℕ) → q < l.i → get_or l.spare q (pos 0) ≡ (row_at (count_of l.records) q l.records).spare
