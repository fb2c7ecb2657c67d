-- A batch of one sheet: its refusals are the sheet's own and that of short lists, and where none is given the sheet's rows are its page.
-- Assumes nothing.
use mathlib.Core.Path.{◌≡◌, ◌∙◌}
use mathlib.Core.Bool.{false, or-false}
use mathlib.Core.List.{List, [], ◌∷◌, ◌++◌, append-nil}
use Prim.Native.Nat.{ℕ, ◌+◌, ◌*◌, ◌≤◌}
use native.Mathlib.Omega.{arith}
use lib.Dec.{ltb}
use lib.IntN.{ℤ}
use lib.ListN.{length, drop}
use Rattle.definition.specs.Refusal.{pick, first_of}
use Rattle.sheet_definition.specs.Refusals.{sheet_refusal}
use Rattle.plan_definition.specs.declared.Well.{Well}
use Rattle.plan_definition.specs.Some.{some}
use Rattle.plan_definition.specs.Some.Among.{here}
use Rattle.plan_definition.specs.Well.{wells}
use Rattle.plan_definition.specs.Check.{sound}
use Rattle.brine_definition.specs.declared.Statement.{Statement}
use Rattle.brine_definition.specs.Count.{sum, count}
use Rattle.brine_definition.specs.Page.{rows}
use Rattle.brine_definition.specs.Statement.{batch, page, intakes, spares, statement_of, list_refusal, brine_refusals, brine_outcome}
use Rattle.brine_definition.proofs.Sums.{sum_zeros}
use Rattle.brine_definition.proofs.Sound.{faulted-intakes, faulted-spares}
use Rattle.brine_definition.proofs.Faulted.{none_below}
use Rattle.brine_definition.proofs.Outcomes.{given, done}
use Rattle.brine_definition.proofs.Refused.{none_refused}

pub alone : (sheet n intake spare : ℕ)
    → first_of (brine_refusals sheet (n ∷ []) intake spare) ≡ first_of (sheet_refusal n sheet ∷ list_refusal n intake spare ∷ [])
unfolding brine_refusals sheet_refusal some sum first_of pick
alone sheet n intake spare = let e : n + 0 ≡ n = omega arith in rw (e, or-false (ltb 1024 n))

-- of a faulted sheet there is nothing but that it is one
pub faulted-alone : (ws : List Well) → sound ws ≡ false
    → ◌≡◌ {A = Statement} (record { number = 0; sound = 0; faulted = 1; intake = 0; overloaded = 0 }) (statement_of (ws ∷ []))
unfolding statement_of page count pick
faulted-alone ws e =
    rw (e, append-nil (rows ws), faulted-intakes ws e, faulted-spares ws e, sum_zeros (length ws), none_below (length ws))

module _ (n : ℕ) (sheet intake : List ℕ) (spare : List ℤ) (e : given sheet (n ∷ []) intake spare ≡ 0) where
  -- nothing is refused: there is room in the buffer and in both lists
  pub room-alone : (n ≤ 1024) × (40 * n ≤ length sheet) × (n ≤ length intake) × (n ≤ length spare)
  unfolding sum
  room-alone =
      let h = ((none_refused (length sheet) (n ∷ []) (length intake) (length spare)).0 e).1 in
      (h.0.0 n here, omega (arith, h.0.1), omega (arith, h.1.0), omega (arith, h.1.1))

  -- and the sheet's rows stand in front
  pub done_alone : brine_outcome sheet (n ∷ []) intake spare ≡ record {
    answer = statement_of (wells n sheet ∷ []);
    intake = intakes (rows (wells n sheet)) ++ drop n intake;
    spare = spares (rows (wells n sheet)) ++ drop n spare;
  }
  unfolding batch page sum
  done_alone =
      let z : n + 0 ≡ n = omega arith in
      done sheet (n ∷ []) intake spare e ∙ rw (append-nil (rows (wells n sheet)), z)
