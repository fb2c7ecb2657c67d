-- `reach::reach` meets its contract: refused, or the marks in front of the buffer.
-- Assumes nothing.
use mathlib.Core.Path.{sym, ap, ◌∙◌}
use mathlib.Core.List.{[], ◌∷◌}
use native.Mathlib.Omega.{arith}
use Prim.Native.Nat.{◌*◌}
use lib.ListN.{length, take}
use lib.Seq.{length-take-le}
use Rattle.refusals.specs.Number.{number_of}
use Rattle.refusals.proofs.Judged.{refused, passed, isnt_done}
use Rattle.sheet_definition.specs.Sheet.{record_bytes}
use Rattle.sheet_definition.specs.Refusals.{sheet_refusal}
use Rattle.reach_definition.specs.Reach.{reach_refusals}
use Rattle.reach_definition.proofs.Outcomes.{done}
use Rattle.reach.specs.Front.{front_refusals, well_refusals}
use Rattle.reach.specs.Level.{FoundAt}
use Rattle.reach.proofs.Fronts.{searched, few, cut-long, cut-wells, cut-sound, cut-searched, looked_for, roomy, on_the_well, bytes_left}
use Rattle.reach.proofs.reach.Goals as goal

-- 5, 19 and 20 decide
pub returns-in_err-judged : goal.returns-in_err-judged
unfolding reach_refusals sheet_refusal
returns-in_err-judged c =
    let a = c.args in
    let r = c.from_residual.ensures.1 in
    bytes_left a.sheet.now a.n a.well a.hops a.reached.now _
    (refused _ _ (front_refusals a.sheet.now a.n a.hops) (well_refusals a.sheet.now a.n a.well (length a.reached.now)) r c.in_err-judged.ensures) (isnt_done _ _ r)

pub find-requires : goal.find-requires
find-requires c = cut-sound _ _ (searched _ _ _ (sym c.in_ok-judged.ensures))

-- the records are cut from the sheet
pub overflow_mul-records : goal.overflow_mul-records
overflow_mul-records c = omega (arith, few _ _ _ (sym c.in_ok-judged.ensures))

pub slice_bounds-records-end : goal.slice_bounds-records-end
slice_bounds-records-end c = sym (length-take-le _ _ (searched c.args.sheet.now c.args.n c.args.hops (sym c.in_ok-judged.ensures)).room)

-- then 21
pub returns-in_err-place : goal.returns-in_err-place
returns-in_err-place c =
    let a = c.args in
    let r = c.from_residual-in_err-place.ensures.1 in
    let absent = ap number_of c.in_err-place.ensures.value ∙ looked_for a.sheet.now a.n (searched _ _ _ (sym c.in_ok-judged.ensures)) a.well c.find.result c.find.ensures in
    bytes_left a.sheet.now a.n a.well a.hops a.reached.now _
    (refused _ _ (_ ∷ []) (_ ∷ []) r absent ∙ sym (on_the_well a.sheet.now a.n a.well a.hops a.reached.now c.in_ok-judged.ensures)) (isnt_done _ _ r)

-- and 22
pub returns-in_err-when : goal.returns-in_err-when
returns-in_err-when c =
    let a = c.args in
    let r = c.from_residual-in_err-when.ensures.1 in
    let there = ap number_of c.in_ok-place.ensures.value ∙ looked_for a.sheet.now a.n (searched _ _ _ (sym c.in_ok-judged.ensures)) a.well c.find.result c.find.ensures in
    bytes_left a.sheet.now a.n a.well a.hops a.reached.now _
    (refused _ _ (_ ∷ []) [] r c.in_err-when.ensures
    ∙ sym (on_the_well a.sheet.now a.n a.well a.hops a.reached.now c.in_ok-judged.ensures ∙ passed (_ ∷ []) (_ ∷ []) (omega arith) there)) (isnt_done _ _ r)

pub slice_bounds-search-end : goal.slice_bounds-search-end
slice_bounds-search-end c = roomy _ _ c.in_ok-when.ensures

pub slice_bounds-search-end-2 : goal.slice_bounds-search-end-2
slice_bounds-search-end-2 c = sym (length-take-le _ _ (roomy _ _ c.in_ok-when.ensures))

pub search-requires : goal.search-requires
search-requires c =
    let a = c.args in
    let at_it : FoundAt (take (record_bytes * a.n) a.sheet.now) a.well c.in_ok-place.place = rw c.in_ok-place.ensures.ok_part at c.find.ensures in
    let long = length-take-le a.n a.reached.now (roomy _ _ c.in_ok-when.ensures) in
    let s = searched _ _ _ (sym c.in_ok-judged.ensures) in
    rw long (cut-searched _ _ s, omega (arith, at_it.within, cut-long _ _ s), at_it.stands-there)

pub returns : goal.returns
returns c =
    let a = c.args in
    let there = ap number_of c.in_ok-place.ensures.value ∙ looked_for a.sheet.now a.n (searched _ _ _ (sym c.in_ok-judged.ensures)) a.well c.find.result c.find.ensures in
    let at_it : FoundAt (take (record_bytes * a.n) a.sheet.now) a.well c.in_ok-place.place = rw c.in_ok-place.ensures.ok_part at c.find.ensures in
    let long = length-take-le a.n a.reached.now (roomy _ _ c.in_ok-when.ensures) in
    let none =
    on_the_well a.sheet.now a.n a.well a.hops a.reached.now c.in_ok-judged.ensures ∙ passed (_ ∷ []) (_ ∷ []) (omega arith) there ∙ sym c.in_ok-when.ensures in
    rw (done a.sheet.now a.n a.well a.hops a.reached.now none, c.search.ensures, long, at_it.number-there, cut-wells _ _ (searched _ _ _ (sym c.in_ok-judged.ensures)))
