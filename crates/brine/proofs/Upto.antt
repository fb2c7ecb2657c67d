-- What holds before each sheet of a batch that isn't refused: with the sheets that are left, totals and lists are those of the batch.
-- Assumes nothing.
use mathlib.Core.Path.{◌≡◌, sym, ◌∙◌}
use mathlib.Core.List.{List, [], ◌∷◌, ◌++◌}
use Prim.Native.Nat.{ℕ, suc, ◌+◌, ◌*◌, ◌<◌, ◌≤◌}
use native.Mathlib.Omega.{arith}
use lib.IntN.{ℤ}
use lib.ListN.{length, get_or, take, drop, length-drop, drop_of_length-le}
use Rattle.plan_definition.specs.Well.{wells}
use Rattle.plan_definition.proofs.Some.{at_index}
use Rattle.plan_definition.proofs.Listed.{length-wells}
use Rattle.brine_definition.specs.declared.Statement.{Statement}
use Rattle.brine_definition.specs.Count.{sum}
use Rattle.brine_definition.specs.Page.{rows}
use Rattle.brine_definition.specs.Statement.{batch, page, intakes, spares, statement_of, BrineOutcome, brine_outcome}
use Rattle.brine_definition.proofs.Sums.{intakes-append, spares-append, length-intakes, length-spares}
use Rattle.brine_definition.proofs.Sound.{length-rows}
use Rattle.brine_definition.proofs.Outcomes.{given, done}
use Rattle.brine_definition.proofs.Refused.{none_refused}
use Rattle.brine_sheet.proofs.Alone.{done_alone}
use Rattle.brine.proofs.Counts.{sum_step, sum_none}
use Rattle.brine.proofs.Filled.{Filled, filled_none, filled_more, filled_all}
use Rattle.brine.proofs.Batch.{left_from, left_step, allowed_alone}
use Rattle.brine.proofs.Totals.{plus, Adds, adds_more, adds_all}

-- k sheets of so many records are done, with totals a
pub record Upto (sheets counts intake₀ : List ℕ) (spare₀ : List ℤ) (k at : ℕ) (a : Statement) (intake : List ℕ) (spare : List ℤ) : Type 0 where
  pub within : k ≤ length counts
  pub records : at + sum (drop k counts) ≡ sum counts
  pub totals : Adds a (statement_of (left_from k at counts sheets)) (statement_of (batch counts sheets))
  pub in_intake : Filled at intake intake₀ (intakes (page (left_from k at counts sheets))) (intakes (page (batch counts sheets)))
  pub in_spare : Filled at spare spare₀ (spares (page (left_from k at counts sheets))) (spares (page (batch counts sheets)))

module _ {sheets counts intake₀ : List ℕ} {spare₀ : List ℤ} (r : given sheets counts intake₀ spare₀ ≡ 0) where
  -- before the first
  pub none_yet : Upto sheets counts intake₀ spare₀ 0 0 (record { number = 0; sound = 0; faulted = 0; intake = 0; overloaded = 0 }) intake₀ spare₀
  none_yet =
      record {
        within = omega arith;
        records = omega arith;
        totals = record { sound = omega arith; faulted = omega arith; intake = omega arith; overloaded = omega arith };
        in_intake = filled_none intake₀ _;
        in_spare = filled_none spare₀ _;
      }

  module _ {k at : ℕ} {a : Statement} {intake : List ℕ} {spare : List ℤ} (u : Upto sheets counts intake₀ spare₀ k at a intake spare) where
    -- after the last
    pub all_done : length counts ≤ k → a.number ≡ 0
        → ◌≡◌ {A = BrineOutcome} (record { answer = a; intake = intake; spare = spare }) (brine_outcome sheets counts intake₀ spare₀)
    unfolding batch page intakes spares
    all_done h e =
        let none : left_from k at counts sheets ≡ [] = rw (drop_of_length-le counts h) in
        let w : at ≡ sum counts = omega (arith, u.records, sum_none counts k h) in
        let p = adds_all a (batch counts sheets) e (rw none at u.totals) in
        let x = rw w at (filled_all at intake intake₀ _ (rw none at u.in_intake)) in
        let y = rw w at (filled_all at spare spare₀ _ (rw none at u.in_spare)) in
        (λ i. record { answer = p i; intake = x i; spare = y i }) ∙ sym (done sheets counts intake₀ spare₀ r)

    module _ (h : k < length counts) where
      abbrev n : ℕ
      n = get_or counts k 0

      -- there is room for the next
      pub next_fits : (40 * (at + n) ≤ length sheets) × (at + n ≤ length intake) × (at + n ≤ length spare)
      next_fits =
          let s = sum_step counts k h in
          let room = ((none_refused (length sheets) counts (length intake₀) (length spare₀)).0 r).1 in
          (omega (arith, u.records), omega (arith, u.records, u.in_intake.long), omega (arith, u.records, u.in_spare.long))

      -- and what holds with it
      pub one_more : (o : BrineOutcome) → o ≡ brine_outcome (drop (40 * at) sheets) (n ∷ []) (drop at intake) (drop at spare)
          → Upto sheets counts intake₀ spare₀ (suc k) (at + n) (plus a o.answer) (take at intake ++ o.intake) (take at spare ++ o.spare)
      unfolding page
      one_more o e =
          let sheet = drop (40 * at) sheets in
          let rs = rows (wells n sheet) in
          let long : length rs ≡ n = length-rows (wells n sheet) ∙ length-wells n sheet in
          let s = sum_step counts k h in
          let small = ((none_refused (length sheets) counts (length intake₀) (length spare₀)).0 r).1.0.0 n (at_index counts k 0 h) in
          let alone =
          allowed_alone sheet n (drop at intake) (drop at spare) small (rw length-drop (omega (arith, next_fits.0)))
          (rw length-drop (omega (arith, next_fits.1))) (rw length-drop (omega (arith, next_fits.2))) in
          rw (e ∙ done_alone n sheet (drop at intake) (drop at spare) alone) (
          record {
            within = omega arith;
            records = omega (arith, u.records);
            totals = adds_more a _ (wells n sheet) _ (rw (left_step counts sheets k at h) at u.totals);
            in_intake =
                filled_more at n intake intake₀ (intakes rs) _ _ (length-intakes rs ∙ long) next_fits.1
                (rw (left_step counts sheets k at h, intakes-append) at u.in_intake);
            in_spare =
                filled_more at n spare spare₀ (spares rs) _ _ (length-spares rs ∙ long) next_fits.2
                (rw (left_step counts sheets k at h, spares-append) at u.in_spare);
          }
          )
