-- The rows of a sheet place by place, and the spares and the statement of a sound one.
-- Assumes nothing.
use mathlib.Core.Path.{◌≡◌, refl, ap, ◌∙◌}
use mathlib.Core.Bool.{Bool, true, false, cond}
use mathlib.Core.List.{List, [], ◌∷◌, append-nil, map-map}
use Prim.Native.Nat.{ℕ, ◌+◌, ◌<◌}
use lib.ListN.{length, get_or}
use Rattle.std.specs.List.{sum as std_sum, count_by}
use Rattle.std.proofs.lemmas.List.Recursion.{is_sum_by}
use Rattle.definition.specs.Refusal.{pick}
use Rattle.plan_definition.specs.declared.Well.{Well}
use Rattle.plan_definition.specs.Well.{wells}
use Rattle.plan_definition.specs.Rules.{injector}
use Rattle.plan_definition.specs.Check.{sound}
use Rattle.plan_definition.proofs.Listed.{length-wells, each_at}
use Rattle.brine_definition.specs.declared.Statement.{Statement}
use Rattle.brine_definition.specs.Count.{sum, count}
use Rattle.brine_definition.specs.Page.{Row, intake_from, spare_of, row_of, row_when, rows, row_in}
use Rattle.brine_definition.specs.Said.{row_at}
use Rattle.brine_definition.specs.Statement.{page, intakes, spares, below_zero, statement_of}
use Rattle.brine_definition.proofs.Sums.{length-intakes}
use Rattle.brine_definition.proofs.Sound.{length-rows}

module _ (n : ℕ) (sheet : List ℕ) where
  pub length-rows_intakes : length (intakes (rows (wells n sheet))) ≡ n
  length-rows_intakes = length-intakes (rows (wells n sheet)) ∙ length-rows (wells n sheet) ∙ length-wells n sheet

  -- the intake at a place is its row's
  pub intake_at : (i : ℕ) → i < n → get_or (intakes (rows (wells n sheet))) i 0 ≡ (row_at n i sheet).intake
  unfolding intakes rows
  intake_at i h =
      let ws = wells n sheet in
      ap (λ (l : List ℕ). get_or l i 0) (map-map (λ r. r.intake) (row_in ws) ws) ∙ each_at n sheet (λ w. (row_in ws w).intake) 0 i h

-- the statement's sum and count are the library's
pub summed : (l : List ℕ) → sum l ≡ std_sum l
unfolding sum
summed = is_sum_by sum (λ x. x) refl (λ _ _. refl)

pick_cond : (b : Bool) → ◌≡◌ {A = ℕ} (pick b 1 0) (cond b 1 0)
unfolding pick
pick_cond true = refl
pick_cond false = refl

pub counted : {A : Type 0} (f : A → Bool) (l : List A) → count f l ≡ count_by f l
unfolding count pick
counted f = is_sum_by (count f) (λ a. cond (f a) 1 0) refl (λ a l. ap (λ (k : ℕ). k + count f l) (pick_cond (f a)))

spare-when : (b : Bool) (rate a k : ℕ) →
    let row : ℕ → Row = λ a. row_when b (record { intake = a; spare = spare_of rate a }) in
    a ≡ (row k).intake → (row a).spare ≡ (row k).spare
unfolding row_when
spare-when true rate a k e = ap (spare_of rate) e
spare-when false rate a k e = refl

module _ (ws : List Well) (e : sound ws ≡ true) where
  -- the spare at a row's intake is the row's
  pub spare_in : (w : Well) (a : ℕ) → a ≡ (row_in ws w).intake
      → (row_when (injector w) (record { intake = a; spare = spare_of w.rate a })).spare ≡ (row_in ws w).spare
  unfolding row_of
  spare_in w a h = rw e (spare-when (injector w) w.rate a (intake_from ws w.number) (rw e at h))

  -- the statement over this sheet alone
  pub statement_of_lem : ◌≡◌ {A = Statement} (statement_of (ws ∷ []))
      (record { number = 0; sound = 1; faulted = 0; intake = sum (intakes (rows ws)); overloaded = count below_zero (spares (rows ws)) })
  unfolding statement_of page count pick
  statement_of_lem = rw (e, append-nil (rows ws))

-- a statement that is the default has zeros alone
pub no_figures : (a : Statement) → (a.number ≡ 0) × ((a.sound ≡ 0) × ((a.faulted ≡ 0) × ((a.intake ≡ 0) × (a.overloaded ≡ 0))))
    → a ≡ record { number = 0; sound = 0; faulted = 0; intake = 0; overloaded = 0 }
no_figures a z = λ i. record { number = z.0 i; sound = z.1.0 i; faulted = z.1.1.0 i; intake = z.1.1.1.0 i; overloaded = z.1.1.1.1 i }
