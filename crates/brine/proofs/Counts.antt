-- The counts of a batch: their sum from one on, what it comes to where none is over the most, and the refusals in the order in which they are judged.
-- Assumes nothing.
use mathlib.Core.Path.{◌≡◌, refl, sym, ap}
use mathlib.Core.Bool.{Bool, true, false, ◌||◌}
use mathlib.Core.List.{List, [], ◌∷◌}
use Prim.Native.Nat.{ℕ, suc, ◌+◌, ◌*◌, ◌<◌, ◌≤◌}
use native.Mathlib.Omega.{arith}
use lib.Dec.{ltb}
use lib.ListN.{length, get_or, drop, drop_of_length-le}
use lib.Seq.{drop-cons}
use Rattle.std.specs.List.{list_any}
use Rattle.std.proofs.lemmas.Bool.{ltb-false}
use Rattle.std.proofs.lemmas.List.Recursion.{same_from_clauses}
use Rattle.definition.specs.Refusal.{Refusal, BATCH, SHEET, pick, first_of, condition_of}
use Rattle.definition.proofs.Refusals.{fails}
use Rattle.definition.proofs.Conditions.{either_false}
use Rattle.sheet_definition.specs.Sheet.{most}
use Rattle.plan_definition.specs.Some.{some}
use Rattle.brine_definition.specs.Count.{sum}
use Rattle.brine_definition.specs.Statement.{list_refusal, brine_refusals}

-- whether some count is over the most
abbrev pub some_over : List ℕ → Bool
some_over counts = some (ltb most) counts

pub any_over : (counts : List ℕ) → some_over counts ≡ list_any (ltb most) counts
unfolding some
any_over = same_from_clauses (some (ltb most)) (list_any (ltb most)) (λ n b. ltb most n || b) refl (λ _ _. refl) (λ _ _. refl)

sum_most : (counts : List ℕ) → some_over counts ≡ false → sum counts ≤ most * length counts
unfolding some sum
sum_most [] e = omega arith
sum_most (n ∷ ns) e =
    let none = either_false (ltb most n) (some_over ns) e in
    omega (arith, ltb-false most n none.0, sum_most ns none.1)

-- past the refusals of the counts their sum is small
pub sum_small : (counts : List ℕ) → 0 ≡ first_of ((BATCH, ltb 64 (length counts)) ∷ []) → 0 ≡ first_of ((SHEET, some_over counts) ∷ []) → sum counts ≤ 65536
unfolding condition_of pick
sum_small counts few small =
    omega (
      arith,
      sum_most counts (fails ((SHEET, some_over counts) ∷ []) (omega arith) (sym small) SHEET),
      ltb-false 64 (length counts) (fails ((BATCH, ltb 64 (length counts)) ∷ []) (omega arith) (sym few) BATCH),
    )

module _ (counts : List ℕ) (k : ℕ) where
  pub sum_step : k < length counts → sum (drop k counts) ≡ get_or counts k 0 + sum (drop (suc k) counts)
  unfolding sum
  sum_step h = rw (drop-cons counts k 0 h)

  pub sum_none : length counts ≤ k → sum (drop k counts) ≡ 0
  unfolding sum
  sum_none h = rw (drop_of_length-le counts h)

-- two conditions of one refusal are judged one after the other
either_of : (k : ℕ) (a b : Bool) (rs : List Refusal) → first_of ((k, a || b) ∷ rs) ≡ first_of ((k, a) ∷ (k, b) ∷ rs)
unfolding first_of pick
either_of k true b rs = refl
either_of k false b rs = refl

pub in_turn : (sheets : ℕ) (counts : List ℕ) (intake spare : ℕ) → first_of (brine_refusals sheets counts intake spare)
    ≡ first_of ((BATCH, ltb 64 (length counts)) ∷ (SHEET, some_over counts) ∷ (SHEET, ltb sheets (40 * sum counts)) ∷ list_refusal (sum counts) intake spare ∷ [])
unfolding brine_refusals first_of
in_turn sheets counts intake spare =
    ap (λ (k : ℕ). pick (ltb 64 (length counts)) BATCH k)
    (either_of SHEET (some_over counts) (ltb sheets (40 * sum counts)) (list_refusal (sum counts) intake spare ∷ []))
