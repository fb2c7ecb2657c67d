-- The invariants of `columns::put_dump`.
use mathlib.Core.Path.{◌≡◌}
use mathlib.Core.List.{List, map}
use Prim.Native.Nat.{ℕ, ◌-◌, ◌≤◌}
use lib.ListN.{length}
use Rattle.definition.specs.Block.{block_from}
use Rattle.definition.specs.Buffer.{overwrite_at}
use Rattle.columns_definition.specs.Dump.{rows_to, column}
use Rattle.columns.proofs.put_dump.Given as goal

-- the bytes at position l
unfoldable pub bytes : (blocks : List (List ℕ)) → ℕ → List ℕ
bytes blocks l = column l (map block_from blocks)

abbrev pub invariant-loop-l : goal.invariant-loop-l
invariant-loop-l l = (l.l ≤ 32) × (length l.dump ≡ length l.initial.dump) × (l.dump ≡ overwrite_at 0 (rows_to l.l (bytes l.blocks)) l.initial.dump)

abbrev pub decreases-loop-l : goal.decreases-loop-l
decreases-loop-l l = 32 - l.l
