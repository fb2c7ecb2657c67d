-- Any two outcomes that the statement of the call allows are equal.
-- Assumes nothing.
use mathlib.Core.List.{List}
use Prim.Native.Nat.{ℕ}
use lib.IntN.{ℤ}
use Rattle.definition.proofs.Determined.{Determined, determined}
use Rattle.brine_definition.specs.Statement.{brine_outcome}

pub brine_determined : (sheets counts intake : List ℕ) (spare : List ℤ) → Determined (brine_outcome sheets counts intake spare)
brine_determined sheets counts intake spare = determined (brine_outcome sheets counts intake spare)
