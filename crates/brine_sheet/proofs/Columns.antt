-- The intakes that were sent are the page's, and zeros can take them.
-- Assumes nothing.
use mathlib.Core.Path.{◌≡◌, sym, ◌∙◌}
use mathlib.Core.List.{List, map-map}
use Prim.Native.Nat.{ℕ, ◌*◌, ◌<◌}
use native.Mathlib.Omega.{arith}
use lib.ListN.{length, replicate, length-replicate, get_or-replicate}
use Rattle.plan_definition.specs.Well.{wells}
use Rattle.plan_definition.specs.Rules.{injector}
use Rattle.plan_definition.proofs.Places.{well_at}
use Rattle.plan_definition.proofs.Tested.{sound_tested}
use Rattle.plan_definition.proofs.Listed.{length-wells, column}
use Rattle.plan_places.specs.Places.{placed}
use Rattle.brine_definition.specs.Page.{row_of, rows, row_in}
use Rattle.brine_definition.specs.Statement.{intakes}
use Rattle.brine_definition.proofs.Sums.{pick-most}
use Rattle.brine_definition.proofs.Bounds.{intake-most}
use Rattle.brine_definition.proofs.Conserved.{when-intake}
use Rattle.brine_sheet.specs.Sent.{sent_to, Added, Takes}
use Rattle.brine_sheet.proofs.Found.{Given, sent_there}

module _ {n : ℕ} {sheet t : List ℕ} (g : Given n sheet t) where
  -- zeros can take what is sent: an intake is at most 100,000,000 kilograms a day for each record
  pub sends_fit : Takes (sent_to (placed sheet n t) (wells n sheet)) (replicate n 0)
  unfolding Takes
  sends_fit q l =
      let h : q < n = omega (arith, length-replicate {A = ℕ} n 0) in
      let ws = wells n sheet in
      let w = well_at q sheet in
      let most = pick-most (injector w) _ (100000000 * length ws) (λ e. intake-most ws g.sound w.number) in
      omega (arith, get_or-replicate {A = ℕ} n q 0 0 h, sent_there g q h, most, length-wells n sheet, g.few)

  -- and what they become are the page's intakes
  pub sent_intakes : (x : List ℕ) → length x ≡ n → Added (sent_to (placed sheet n t) (wells n sheet)) (replicate n 0) x
      → x ≡ intakes (rows (wells n sheet))
  unfolding intakes rows Added row_of
  sent_intakes x e h =
      column n sheet (λ w. (row_in (wells n sheet) w).intake) 0 x e (λ q l.
      h q ∙ rw (get_or-replicate {A = ℕ} n q 0 0 l, (sound_tested (wells n sheet)).1 g.sound, sent_there g q l)
      (omega (arith, when-intake (injector (well_at q sheet)) (row_of (wells n sheet) (well_at q sheet)))))
      ∙ sym (map-map (λ r. r.intake) (row_in (wells n sheet)) (wells n sheet))
