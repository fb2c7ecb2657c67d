-- The figures over a batch: every sheet is counted once, the intakes total 1000 times the rates of the sound sheets' producers, and the
-- overloaded are the injectors of sound sheets that are sent over 1000 times their rate, and the places below zero of the spare list.
-- Assumes nothing.
use mathlib.Core.Path.{◌≡◌, refl, ◌∙◌}
use mathlib.Core.Bool.{Bool, true, false, ◌&&◌}
use mathlib.Core.List.{List, [], ◌∷◌, map}
use Prim.Native.Nat.{ℕ, ◌+◌, ◌*◌}
use native.Mathlib.Omega.{arith}
use lib.Dec.{ltb}
use lib.IntN.{ℤ}
use lib.ListN.{length, take, drop}
use Rattle.definition.specs.Refusal.{pick}
use Rattle.plan_definition.specs.declared.Well.{Well}
use Rattle.plan_definition.specs.Well.{wells}
use Rattle.plan_definition.specs.Rules.{injector}
use Rattle.plan_definition.specs.Check.{sound}
use Rattle.brine_definition.specs.Count.{sum, count}
use Rattle.brine_definition.specs.Page.{intake_from, row_of, row_when, rows, produced, row_in}
use Rattle.brine_definition.specs.Statement.{batch, page, intakes, spares, below_zero, statement_of, brine_outcome}
use Rattle.brine_definition.specs.Said.{overloaded_in}
use Rattle.brine_definition.proofs.Sums.{count_not, page-intakes, page-spares}
use Rattle.brine_definition.proofs.Conserved.{sheet-total}
use Rattle.brine_definition.proofs.Spare.{spare_below}
use Rattle.brine_definition.proofs.Outcomes.{given, done, intake_left, spare_left}

-- every sheet is sound or faulted
pub each_counted : (wss : List (List Well)) → (statement_of wss).sound + (statement_of wss).faulted ≡ length wss
unfolding statement_of
each_counted wss = count_not sound wss

-- the total intake is 1000 times the producers' rates over the sound sheets
pub total-intake : (counts sheets : List ℕ)
    → (statement_of (batch counts sheets)).intake ≡ 1000 * sum (map (λ ws. pick (sound ws) (produced ws) 0) (batch counts sheets))
unfolding statement_of batch page intakes sum
total-intake [] sheets = refl
total-intake (n ∷ ns) sheets =
    let rest = drop (40 * n) sheets in
    omega (arith, page-intakes (wells n sheets) (batch ns rest), sheet-total n sheets, total-intake ns rest)

row_below : (ws : List Well) (w : Well) (s i : Bool)
    → below_zero (row_when (s && i) (row_of ws w)).spare ≡ (s && (i && ltb (1000 * w.rate) (intake_from ws w.number)))
unfolding row_when row_of below_zero
row_below ws w true true = spare_below w.rate (intake_from ws w.number)
row_below ws w true false = refl
row_below ws w false i = refl

rows_below : (ws vs : List Well)
    → count below_zero (spares (map (row_in ws) vs)) ≡ count (overloaded_in ws) vs
unfolding spares count
rows_below ws [] = refl
rows_below ws (v ∷ vs) = rw (row_below ws v (sound ws) (injector v), rows_below ws vs)

-- the overloaded are those
pub total-overloaded : (wss : List (List Well)) → (statement_of wss).overloaded ≡ sum (map (λ ws. count (overloaded_in ws) ws) wss)
unfolding statement_of page spares count sum rows
total-overloaded [] = refl
total-overloaded (ws ∷ wss) = page-spares ws wss below_zero ∙ omega (arith, rows_below ws ws, total-overloaded wss)

-- and answer and lists agree: the total is that of the intake list's places, and the overloaded are the spare list's places below zero
module _ (sheets counts intake : List ℕ) (spare : List ℤ) (e : given sheets counts intake spare ≡ 0) where
  pub listed-intake : (brine_outcome sheets counts intake spare).answer.intake
      ≡ sum (take (sum counts) (brine_outcome sheets counts intake spare).intake)
  unfolding statement_of
  listed-intake = rw ((intake_left sheets counts intake spare e).0, done sheets counts intake spare e)

  pub listed-overloaded : (brine_outcome sheets counts intake spare).answer.overloaded
      ≡ count below_zero (take (sum counts) (brine_outcome sheets counts intake spare).spare)
  unfolding statement_of
  listed-overloaded = rw ((spare_left sheets counts intake spare e).0, done sheets counts intake spare e)
