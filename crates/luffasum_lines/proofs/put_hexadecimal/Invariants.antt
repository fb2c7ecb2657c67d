-- The invariants of `luffasum_lines::put_hexadecimal`.
use mathlib.Core.Path.{◌≡◌}
use mathlib.Core.List.{List}
use Prim.Native.Nat.{ℕ, ◌+◌, ◌-◌, ◌*◌, ◌^◌, ◌<◌, ◌≤◌}
use lib.ListN.{length, take}
use Rattle.octets.specs.Total.{write_at}
use Rattle.luffasum_lines.specs.Line.{hexadecimal}
use Rattle.luffasum_lines.proofs.put_hexadecimal.Given as goal

-- the digits of the first k bytes
unfoldable pub some : (k : ℕ) → List ℕ → List ℕ
some k bs = hexadecimal (take k bs)

abbrev pub invariant-loop-k : goal.invariant-loop-k
invariant-loop-k l =
    (l.k ≤ length l.digest) × ((l.i + 2 * length l.digest ≤ length l.initial.out) × (length l.initial.out < 2 ^ 64)) × (l.out ≡ write_at l.i (some l.k l.digest) l.initial.out)

abbrev pub decreases-loop-k : goal.decreases-loop-k
decreases-loop-k l = length l.digest - l.k
