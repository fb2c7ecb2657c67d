-- Any two verdicts that the statement of the check allows are equal.
-- Assumes nothing.
use mathlib.Core.List.{List}
use Prim.Native.Nat.{ℕ}
use Rattle.definition.proofs.Determined.{Determined, determined}
use Rattle.plan_definition.specs.Check.{verdict}

pub check_determined : (sheet : List ℕ) (n : ℕ) → Determined (verdict sheet n)
check_determined sheet n = determined (verdict sheet n)
