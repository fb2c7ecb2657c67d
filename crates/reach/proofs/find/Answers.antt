-- `reach::find` meets its contract: no well has 0. The loop's invariant: what is left decides.
-- Assumes nothing.
use mathlib.Core.Path.{◌≡◌, sym, ap, ◌∙◌}
use mathlib.Core.Bool.{◌||◌}
use mathlib.Core.List.{List}
use Prim.Native.Nat.{ℕ, suc, ◌<◌}
use native.Mathlib.Numerals.{add-one}
use native.Mathlib.Omega.{arith}
use borrow.Author.Tests.{eq-eqb, ne_eqb}
use lib.Dec.{eqb}
use Rattle.plan_definition.specs.declared.Well.{Well}
use Rattle.plan_definition.specs.Some.{some}
use Rattle.plan_definition.specs.Rules.{has_number}
use Rattle.plan_definition.proofs.Struck.{of_number}
use Rattle.plan_definition.proofs.Places.{left, left_all, left_step, left_none}
use Rattle.plan_record.specs.Total.{well_in}
use Rattle.plan_record.proofs.Total.{well_read}
use Rattle.plan.specs.Sets.{count_of, wells_of}
use Rattle.reach_definition.proofs.Refused.{none_named, none_zero}
use Rattle.reach.proofs.Wells.{numbered}
use Rattle.reach.proofs.find.Goals as goal

pub returns-then-well-eq0 : goal.returns-then-well-eq0
returns-then-well-eq0 c =
    let ws = wells_of c.args.records.now in
    rw c.if-well-eq0.true ((none_named ws 0).1 (none_zero ws c.requires))

pub loop-i-init : goal.loop-i-init
loop-i-init c = rw (left_all (count_of c.args.records.now) c.args.records.now)

-- the well at the place has the number, or one after it has
step : (records : List ℕ) (i well : ℕ) {w : Well} → i < count_of records → (well ≡ 0 → ⊥) → w ≡ well_in records i
    → some (has_number well) (left i (count_of records) records) ≡ some (has_number well) (wells_of records)
    → eqb w.number well || some (has_number well) (left (suc i) (count_of records) records) ≡ some (has_number well) (wells_of records)
unfolding some
step records i well h z e l =
    rw (e, well_read records i (omega arith), ← numbered well _ z) (rw (left_step (count_of records) records i h) at l)

pub returns-then-from-well : goal.returns-then-from-well
returns-then-from-well c =
    let l = c.loop-i in
    let same : c.read-w.result.number ≡ c.args.well = sym c.from.ensures ∙ c.if-from-well.true in
    let number = ap (λ (w : Well). w.number) (sym c.read-w.ensures) ∙ same in
    record {
      within = omega arith;
      there = sym (rw (eq-eqb _ _ same) at (step _ l.i _ (omega arith) c.if-well-eq0.false c.read-w.ensures l.invariant));
      stands-there = of_number _ (λ z. c.if-well-eq0.false (sym number ∙ z));
      number-there = number;
    }

pub loop-i-preserved : goal.loop-i-preserved
loop-i-preserved c =
    let l = c.loop-i in
    let other : c.read-w.result.number ≡ c.args.well → ⊥ = λ e. c.if-from-well.false (c.from.ensures ∙ e) in
    rw (add-one l.i) (rw (ne_eqb _ _ other) at (step _ l.i _ (omega arith) c.if-well-eq0.false c.read-w.ensures l.invariant))

pub returns : goal.returns
unfolding some
returns c =
    let l = c.loop-i in
    let a = c.args in
    let e : l.i ≡ count_of a.records.now = omega arith in
    sym (rw (left_none (count_of a.records.now) a.records.now) at (rw e at l.invariant))
