-- The invariants of `octets::put_bytes`.
use mathlib.Core.Path.{◌≡◌}
use Prim.Native.Nat.{◌+◌, ◌-◌, ◌^◌, ◌<◌, ◌≤◌}
use lib.ListN.{length}
use lib.Seq.{paste}
use Rattle.octets.proofs.put_bytes.Given as goal

abbrev pub invariant-loop-j : goal.invariant-loop-j
invariant-loop-j l =
    (l.j ≤ length l.t) × ((l.i + length l.t ≤ length l.initial.b) × (length l.initial.b < 2 ^ 64)) × (l.b ≡ paste l.initial.b l.i l.t l.j)

abbrev pub decreases-loop-j : goal.decreases-loop-j
decreases-loop-j l = length l.t - l.j
