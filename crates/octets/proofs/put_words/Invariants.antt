-- The invariants of `octets::put_words`.
use mathlib.Core.Path.{◌≡◌}
use mathlib.Core.List.{List}
use Prim.Native.Nat.{ℕ, ◌+◌, ◌-◌, ◌*◌, ◌^◌, ◌<◌, ◌≤◌}
use lib.ListN.{length, take}
use Rattle.definition.specs.Word.{bytes_of_all}
use Rattle.octets.specs.Total.{write_at}
use Rattle.octets.proofs.put_words.Given as goal

-- the first k words
unfoldable pub some : (k : ℕ) → List ℕ → List ℕ
some k ws = bytes_of_all (take k ws)

abbrev pub invariant-loop-k : goal.invariant-loop-k
invariant-loop-k l =
    (l.k ≤ length l.ws) × ((l.i + 4 * length l.ws ≤ length l.initial.out) × (length l.initial.out < 2 ^ 64)) × (l.out ≡ write_at l.i (some l.k l.ws) l.initial.out)

abbrev pub decreases-loop-k : goal.decreases-loop-k
decreases-loop-k l = length l.ws - l.k
