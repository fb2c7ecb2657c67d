-- The brine page of what is left is the page without the struck places, and the statement is the same.
-- Assumes nothing.
use mathlib.Core.Path.{◌≡◌, refl, sym, ap, ap₂, ◌∙◌}
use mathlib.Core.Bool.{Bool, true, false, and-false}
use mathlib.Core.List.{List, [], ◌∷◌, map}
use Prim.Native.Nat.{ℕ, ◌+◌}
use native.Mathlib.Nat.{zero-add}
use Rattle.definition.specs.Refusal.{pick}
use Rattle.plan_definition.specs.declared.Well.{Well}
use Rattle.plan_definition.specs.Rules.{producer, injector, used, struck}
use Rattle.plan_definition.specs.Check.{sound}
use Rattle.plan_definition.proofs.Struck.{nothing-set}
use Rattle.brine_definition.specs.Count.{sum, count}
use Rattle.brine_definition.specs.Page.{intake_from, Row, row_of, row_when, row_in, rows}
use Rattle.brine_definition.specs.Said.{no_row}
use Rattle.brine_definition.specs.Statement.{intakes, spares, below_zero}
use Rattle.closed_plan.specs.Closed.{moved_to, wells_left, rows_left}
use Rattle.closed_plan.proofs.Left.{by_left}

-- a struck record sends nothing, so an injector takes in as much from those left
intake_left : (k p : ℕ) (ws : List Well) → intake_from (wells_left p ws) k ≡ intake_from ws k
unfolding intake_from producer used moved_to pick
intake_left k =
    by_left (λ p ws vs. intake_from vs k ≡ intake_from ws k) (λ p. refl)
    (λ p w ws vs e i. rw ((nothing-set w).0 e).1.0 (i ∙ sym (zero-add _))) (λ p w ws vs e i. rw i)

-- a struck record's row is zeros
struck-row : (ws : List Well) (w : Well) → struck w ≡ true → row_in ws w ≡ no_row
unfolding row_when injector
struck-row ws w e = rw (((nothing-set w).0 e).1.0, and-false (sound ws))

-- where what is left is as sound, a well's row is the same
module _ (ws : List Well) (p : ℕ) (e : sound (wells_left p ws) ≡ sound ws) where
  row_left : (k : ℕ) (w : Well) → row_in (wells_left p ws) (moved_to k w) ≡ row_in ws w
  unfolding row_of injector moved_to
  row_left k w = rw (e, intake_left w.number p ws)

  some_left : (k : ℕ) (vs : List Well) → map (row_in (wells_left p ws)) (wells_left k vs) ≡ rows_left vs (map (row_in ws) vs)
  unfolding rows_left pick
  some_left =
      by_left (λ k vs us. map (row_in (wells_left p ws)) us ≡ rows_left vs (map (row_in ws) vs)) (λ k. refl) (λ k v vs us e i. rw e i)
      (λ k v vs us e i. rw e (ap₂ (λ (r : Row) (rs : List Row). r ∷ rs) (row_left k v) i))

  pub page_left : rows (wells_left p ws) ≡ rows_left ws (rows ws)
  unfolding rows
  page_left = some_left p ws

-- a figure that adds up over rows, to which rows of zeros add nothing, is the same without the struck ones
figure_left : (all : List Well) (g : List Row → ℕ) (m : Row → ℕ) → ((r : Row) (rs : List Row) → g (r ∷ rs) ≡ m r + g rs) → m no_row ≡ 0
    → (ws : List Well) → g (rows_left ws (map (row_in all) ws)) ≡ g (map (row_in all) ws)
unfolding rows_left
figure_left all g m add zero_row [] = refl
figure_left all g m add zero_row (w ∷ ws) = go (struck w) refl (figure_left all g m add zero_row ws)
  where
    go : (b : Bool) → struck w ≡ b → g (rows_left ws (map (row_in all) ws)) ≡ g (map (row_in all) ws)
        → g (pick b (rows_left ws (map (row_in all) ws)) (row_in all w ∷ rows_left ws (map (row_in all) ws))) ≡ g (row_in all w ∷ map (row_in all) ws)
    go true e h = unfold pick in (h ∙ sym (add _ _ ∙ rw (struck-row all w e, zero_row) (zero-add _)))
    go false e h = unfold pick in (add _ _ ∙ ap (λ (k : ℕ). m (row_in all w) + k) h ∙ sym (add _ _))

pub intakes_left : (ws : List Well) → sum (intakes (rows_left ws (rows ws))) ≡ sum (intakes (rows ws))
unfolding rows sum intakes
intakes_left ws = figure_left ws (λ rs. sum (intakes rs)) (λ r. r.intake) (λ r rs. refl) refl ws

pub spares_left : (ws : List Well) → count below_zero (spares (rows_left ws (rows ws))) ≡ count below_zero (spares (rows ws))
unfolding rows count spares below_zero
spares_left ws = figure_left ws (λ rs. count below_zero (spares rs)) (λ r. pick (below_zero r.spare) 1 0) (λ r rs. refl) (unfold pick in refl) ws
