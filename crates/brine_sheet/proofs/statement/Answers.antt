-- `brine_sheet::statement` meets its contract: refused, or the sheet's rows at the front of both lists.
-- Assumes nothing.
use mathlib.Core.Path.{◌≡◌, sym, ◌∙◌}
use mathlib.Core.List.{[], ◌∷◌}
use native.Mathlib.Omega.{arith}
use lib.Seq.{length-take-le}
use Rattle.definition.specs.Refusal.{when_done}
use Rattle.definition.proofs.Refusals.{not_done}
use Rattle.refusals.specs.Number.{number}
use Rattle.refusals.proofs.Judged.{not_zero}
use Rattle.brine_definition.specs.Statement.{brine_outcome}
use Rattle.brine_definition.proofs.Outcomes.{given}
use Rattle.plan.proofs.Passed.{front-wells}
use Rattle.brine_sheet.specs.Table.{table_after}
use Rattle.brine_sheet.proofs.Cut.{cut-long, placed-cut}
use Rattle.brine_sheet.proofs.Alone.{room-alone, done_alone}
use Rattle.brine_sheet.proofs.statement.Goals as goal

pub returns-in-Err : goal.returns-in-Err
unfolding brine_outcome table_after
returns-in-Err c =
    let r = c.in-Err.refusal in
    rw (c.refused.ensures, ← c.in-Err.ensures) (sym (not_done (number r) _ _ (not_zero r)), sym (not_done (number r) _ _ (not_zero r)))

pub page-requires : goal.page-requires
page-requires c =
    let r = room-alone _ _ _ _ (sym c.in-Ok.ensures) in
    let long = cut-long _ _ r.1 in
    (omega (arith, r.0, long), length-take-le _ _ r.2 ∙ long, length-take-le _ _ r.3 ∙ long)

pub returns-in-Ok : goal.returns-in-Ok
unfolding table_after when_done
returns-in-Ok c =
    let a = c.args in
    let f = c.page.ensures in
    let allowed : given a.sheet.now (a.n ∷ []) a.intake.now a.spare.now ≡ 0 = sym c.in-Ok.ensures in
    let room = (room-alone _ _ _ _ allowed).1 in
    let ws = front-wells a.n a.sheet.now room in (
      rw (done_alone a.n a.sheet.now a.intake.now a.spare.now allowed, f.0.0, f.0.1, f.0.2, ws),
      rw allowed (rw ws at (f.1 ∙ placed-cut a.n a.sheet.now room _ a.places.now)),
    )

-- the records are cut from the sheet, and a front from each list
pub overflow_mul-n : goal.overflow_mul-n
overflow_mul-n c = omega (arith, (room-alone _ _ _ _ (sym c.in-Ok.ensures)).0)

pub slice_bounds-page-end : goal.slice_bounds-page-end
slice_bounds-page-end c = sym (length-take-le _ _ (room-alone _ _ _ _ (sym c.in-Ok.ensures)).1)

pub slice_bounds-page-end-in-Ok : goal.slice_bounds-page-end-in-Ok
slice_bounds-page-end-in-Ok c = (room-alone _ _ _ _ (sym c.in-Ok.ensures)).2

pub slice_bounds-page-end-in-Ok-2 : goal.slice_bounds-page-end-in-Ok-2
slice_bounds-page-end-in-Ok-2 c = sym (length-take-le _ _ (room-alone _ _ _ _ (sym c.in-Ok.ensures)).2)

pub slice_bounds-page-end-in-Ok-3 : goal.slice_bounds-page-end-in-Ok-3
slice_bounds-page-end-in-Ok-3 c = (room-alone _ _ _ _ (sym c.in-Ok.ensures)).3

pub slice_bounds-page-end-in-Ok-4 : goal.slice_bounds-page-end-in-Ok-4
slice_bounds-page-end-in-Ok-4 c = sym (length-take-le _ _ (room-alone _ _ _ _ (sym c.in-Ok.ensures)).3)
