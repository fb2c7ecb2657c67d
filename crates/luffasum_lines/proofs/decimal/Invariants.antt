-- The invariants of `luffasum_lines::decimal`.
use mathlib.Core.Path.{◌≡◌}
use Prim.Native.Nat.{◌^◌, ◌<◌, ◌≤◌}
use lib.ListN.{length, drop}
use Rattle.luffasum_lines.specs.Line.{decimal_before, decimal}
use Rattle.luffasum_lines.proofs.decimal.Given as goal

abbrev pub invariant-loop-rest : goal.invariant-loop-rest
invariant-loop-rest l =
    ((1 ≤ l.i) × (l.i ≤ 20) × (length l.t ≡ 20)) × (l.rest < 10 ^ l.i) × (decimal_before l.i l.rest (drop l.i l.t) ≡ decimal l.n)

abbrev pub decreases-loop-rest : goal.decreases-loop-rest
decreases-loop-rest l = l.i
