-- The invariants of `columns::put_blocks`.
use mathlib.Core.Path.{◌≡◌}
use mathlib.Core.List.{List}
use Prim.Native.Nat.{ℕ, ◌-◌, ◌≤◌}
use lib.ListN.{length}
use Rattle.definition.specs.Block.{words_of}
use Rattle.definition.specs.Buffer.{overwrite_at}
use Rattle.columns_definition.specs.Dump.{rows_to, block_at}
use Rattle.columns.proofs.put_blocks.Given as goal

-- the words of block j
unfoldable pub read : (n : ℕ) (d : List ℕ) → ℕ → List ℕ
read n d j = words_of (block_at n j d)

abbrev pub invariant-loop-j : goal.invariant-loop-j
invariant-loop-j l = (l.j ≤ l.n) × (length l.words ≡ length l.initial.words) × (l.words ≡ overwrite_at 0 (rows_to l.j (read l.n l.dump)) l.initial.words)

abbrev pub decreases-loop-j : goal.decreases-loop-j
decreases-loop-j l = l.n - l.j
