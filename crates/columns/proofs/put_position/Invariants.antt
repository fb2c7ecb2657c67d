-- The invariants of `columns::put_position`.
use mathlib.Core.Path.{◌≡◌}
use mathlib.Core.List.{List, map}
use Prim.Native.Nat.{ℕ}
use lib.ListN.{take}
use Rattle.definition.specs.Block.{block_from}
use Rattle.definition.specs.Field.{element}
use Rattle.columns.proofs.put_position.Given as goal

-- the byte of a block
unfoldable pub byte : (l : ℕ) (block : List ℕ) → ℕ
byte l block = element l (block_from block)

-- the bytes of the first j blocks are written
abbrev pub invariant-loop-j : goal.invariant-loop-j
invariant-loop-j l = take l.j l.bytes ≡ map (byte l.l) (take l.j l.blocks)
