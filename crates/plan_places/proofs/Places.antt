-- The entry at a well's number is the well's place, where no later record has the number; and the table keeps its length.
-- Assumes nothing.
use mathlib.Core.Path.{◌≡◌, refl, sym, ◌∙◌}
use mathlib.Core.List.{List}
use Prim.Native.Nat.{ℕ, zero, suc, ◌<◌, ◌≤◌}
use native.Mathlib.Nat.{mod-eq_of_lt}
use native.Mathlib.Decide.{ℕ_discrete}
use native.Mathlib.Omega.{arith}
use lib.ListN.{length, get_or, length-set}
use lib.Seq.{get_or-set_same, get_or-set_other}
use Rattle.plan_record.specs.Total.{well_in}
use Rattle.plan_places.specs.Places.{placed}

module _ (sheet : List ℕ) where
  pub length-placed : (n : ℕ) (t : List ℕ) → length (placed sheet n t) ≡ length t
  unfolding placed
  length-placed zero t = refl
  length-placed (suc i) t = length-set (placed sheet i t) _ _ ∙ length-placed i t

  -- an entry holds any place of at most 65,536 records as it is
  pub placed_at : (n : ℕ) (t : List ℕ) (p : ℕ) → p < n → n ≤ 65536 → (well_in sheet p).number < length t
      → ((j : ℕ) → p < j → j < n → (well_in sheet j).number ≡ (well_in sheet p).number → ⊥)
      → get_or (placed sheet n t) (well_in sheet p).number 0 ≡ p
  unfolding placed
  placed_at zero t p h m k d = absurd (omega arith)
  placed_at (suc i) t p h m k d =
      elim (ℕ_discrete p i) [
        | yes e ↦ rw (e, get_or-set_same (placed sheet i t) (well_in sheet i).number _ 0 (rw (length-placed i t) (rw e at k))) (mod-eq_of_lt (omega arith))
        | no e ↦ get_or-set_other (placed sheet i t) _ _ _ 0 (λ f. d i (omega arith) (omega arith) (sym f))
            ∙ placed_at i t p (omega arith) (omega arith) k (λ j g l. d j g (omega arith))
      ]
