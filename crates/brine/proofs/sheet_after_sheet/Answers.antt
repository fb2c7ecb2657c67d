-- `brine::sheet_after_sheet` meets its contract. The loop's invariant: with the sheets that are left, totals and lists are those of the batch.
-- Assumes nothing.
use mathlib.Core.Path.{◌≡◌, ap}
use mathlib.Core.List.{List, [], ◌∷◌, ◌++◌}
use Prim.Native.Nat.{ℕ, suc, ◌+◌, ◌-◌, ◌*◌, ◌<◌}
use native.Mathlib.Numerals.{add-one}
use native.Mathlib.Omega.{arith}
use lib.IntN.{ℤ}
use lib.ListN.{length, get_or, take, drop}
use Rattle.brine_definition.specs.declared.Statement.{Statement}
use Rattle.brine_definition.specs.Said.{AnswerFits}
use Rattle.brine_definition.specs.Statement.{BrineOutcome, brine_outcome}
use Rattle.brine_definition.proofs.Figures.{answer_fits}
use Rattle.brine_definition.proofs.Outcomes.{given}
use Rattle.brine_sheet.proofs.Rows.{no_figures}
use Rattle.brine.proofs.Filled.{to_the_end, none_behind}
use Rattle.brine.proofs.Totals.{plus, part_fits}
use Rattle.brine.proofs.Upto.{Upto, none_yet, all_done, next_fits, one_more}
use Rattle.brine.proofs.sheet_after_sheet.Goals as goal

pub loop-n-init : goal.loop-n-init
loop-n-init c =
    let zeros = no_figures c.default-all.result c.default-all.ensures in
    record { number = ap (λ (d : Statement). d.number) zeros; upto = rw zeros (none_yet c.requires) }

-- the invariant with the next sheet
added : {sheets counts intake₀ : List ℕ} {spare₀ : List ℤ} {k at : ℕ} {a one : Statement} {intake intake' : List ℕ} {spare spare' : List ℤ}
    → given sheets counts intake₀ spare₀ ≡ 0 → Upto sheets counts intake₀ spare₀ k at a intake spare → k < length counts
    → ◌≡◌ {A = BrineOutcome} (record { answer = one; intake = intake'; spare = spare' })
    (brine_outcome (take (length sheets - 40 * at) (drop (40 * at) sheets)) (get_or counts k 0 ∷ []) (take (length intake - at) (drop at intake))
    (take (length spare - at) (drop at spare)))
    → Upto sheets counts intake₀ spare₀ (suc k) (at + get_or counts k 0) (plus a one) (take at intake ++ intake') (take at spare ++ spare')
added {sheets = sheets} {at = at} {intake = intake} {spare = spare} r u h e =
    one_more r u h _ (rw (to_the_end (40 * at) sheets, to_the_end at intake, to_the_end at spare) at e)

-- no total passes the batch's, which fit
small : {sheets counts intake₀ : List ℕ} {spare₀ : List ℤ} {k at : ℕ} {a : Statement} {intake : List ℕ} {spare : List ℤ}
    → given sheets counts intake₀ spare₀ ≡ 0 → Upto sheets counts intake₀ spare₀ k at a intake spare → AnswerFits a
small {sheets = sheets} {counts = counts} {intake₀ = intake₀} {spare₀ = spare₀} r u = part_fits u.totals (answer_fits sheets counts intake₀ spare₀ r)

pub overflow_add-at : goal.overflow_add-at
overflow_add-at c = omega (arith, next_fits c.requires c.loop-n.invariant.upto (omega arith), c)

pub loop-n-preserved : goal.loop-n-preserved
loop-n-preserved c =
    let l = c.loop-n in
    record {
      number = l.invariant.number;
      upto =
          rw (add-one l.n-index, l.invariant.number, none_behind l.at l.intake _, none_behind l.at l.spare _)
          (added c.requires l.invariant.upto (omega arith) c.statement-one.ensures.0);
    }

pub returns : goal.returns
returns c = all_done c.requires c.loop-n.invariant.upto (omega arith) c.loop-n.invariant.number

pub overflow_mul-at : goal.overflow_mul-at
overflow_mul-at c =
    omega (arith, next_fits c.requires c.loop-n.invariant.upto (omega arith))

pub slice_bounds-statement-count : goal.slice_bounds-statement-count
slice_bounds-statement-count c =
    omega (arith, next_fits c.requires c.loop-n.invariant.upto (omega arith))

pub slice_bounds-statement-start : goal.slice_bounds-statement-start
slice_bounds-statement-start c =
    omega (arith, next_fits c.requires c.loop-n.invariant.upto (omega arith))

pub offset_bounds-intake-at : goal.offset_bounds-intake-at
offset_bounds-intake-at c =
    omega (arith, next_fits c.requires c.loop-n.invariant.upto (omega arith))

pub slice_bounds-statement-count-in-loop-n : goal.slice_bounds-statement-count-in-loop-n
slice_bounds-statement-count-in-loop-n c =
    omega (arith, next_fits c.requires c.loop-n.invariant.upto (omega arith))

pub slice_bounds-statement-start-in-loop-n : goal.slice_bounds-statement-start-in-loop-n
slice_bounds-statement-start-in-loop-n c =
    omega (arith, next_fits c.requires c.loop-n.invariant.upto (omega arith))

pub offset_bounds-spare-at : goal.offset_bounds-spare-at
offset_bounds-spare-at c =
    omega (arith, next_fits c.requires c.loop-n.invariant.upto (omega arith))

pub slice_bounds-statement-count-in-loop-n-2 : goal.slice_bounds-statement-count-in-loop-n-2
slice_bounds-statement-count-in-loop-n-2 c =
    omega (arith, next_fits c.requires c.loop-n.invariant.upto (omega arith))

pub slice_bounds-statement-start-in-loop-n-2 : goal.slice_bounds-statement-start-in-loop-n-2
slice_bounds-statement-start-in-loop-n-2 c =
    omega (arith, next_fits c.requires c.loop-n.invariant.upto (omega arith))

pub overflow_add-all : goal.overflow_add-all
overflow_add-all c =
    omega (arith, small c.requires (added c.requires c.loop-n.invariant.upto (omega arith) c.statement-one.ensures.0))

pub overflow_add-all-in-loop-n : goal.overflow_add-all-in-loop-n
overflow_add-all-in-loop-n c =
    omega (arith, small c.requires (added c.requires c.loop-n.invariant.upto (omega arith) c.statement-one.ensures.0))

pub overflow_add-all-in-loop-n-2 : goal.overflow_add-all-in-loop-n-2
overflow_add-all-in-loop-n-2 c =
    omega (arith, small c.requires (added c.requires c.loop-n.invariant.upto (omega arith) c.statement-one.ensures.0))

pub overflow_add-all-in-loop-n-3 : goal.overflow_add-all-in-loop-n-3
overflow_add-all-in-loop-n-3 c =
    omega (arith, small c.requires (added c.requires c.loop-n.invariant.upto (omega arith) c.statement-one.ensures.0))

pub shape_of-intake : goal.shape_of-intake
shape_of-intake c =
    c.loop-n.invariant.upto.in_intake.long

pub shape_of-spare : goal.shape_of-spare
shape_of-spare c =
    c.loop-n.invariant.upto.in_spare.long
