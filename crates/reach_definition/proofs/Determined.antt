-- Any two outcomes that the statement of the call allows are equal.
-- Assumes nothing.
use mathlib.Core.List.{List}
use Prim.Native.Nat.{ℕ}
use Rattle.definition.proofs.Determined.{Determined, determined}
use Rattle.reach_definition.specs.Reach.{reach_outcome}

pub reach_determined : (sheet : List ℕ) (n k hops : ℕ) (reached : List ℕ) → Determined (reach_outcome sheet n k hops reached)
reach_determined sheet n k hops reached = determined (reach_outcome sheet n k hops reached)
