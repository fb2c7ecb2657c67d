-- `sheet_own::drop` meets its contract: refused, or the plain call's answer with where.
-- Assumes nothing.
use Rattle.std.proofs.lemmas.Result.{err_from_is_err_and}
use Rattle.refusals.proofs.Judged.{not_zero}
use mathlib.Core.Path.{refl}
use Rattle.sheet_definition.specs.SheetCalls.{refusals_of}
use Rattle.sheet_definition.specs.SheetCalls.Kind.{Drop}
use Rattle.sheet_own.proofs.Told.{handed, judged_first, judged_own, marks_fit, stale_else, away, located_so}
use Rattle.sheet_own.proofs.drop.Goals as goal

pub returns-in_err-drop : goal.returns-in_err-drop
unfolding refusals_of
returns-in_err-drop c =
    let a = c.args in
    let o = handed a.code a.n a.sheet.now a.marks.now Drop a.claim.now a.owned a.own.now a.out.now in
    let p = err_from_is_err_and c.from_residual.result c.from_residual.ensures.1 in
    rw (p.1, p.2) (away o (judged_first o (rw c.lengths-l.ensures at c.in_err-drop.ensures) (not_zero _)) (not_zero _))

pub returns-in_err-has_own : goal.returns-in_err-has_own
unfolding refusals_of
returns-in_err-has_own c =
    let a = c.args in
    let o = handed a.code a.n a.sheet.now a.marks.now Drop a.claim.now a.owned a.own.now a.out.now in
    let p = err_from_is_err_and c.from_residual-in_err-has_own.result c.from_residual-in_err-has_own.ensures.1 in
    rw (p.1, p.2) (away o (judged_own o (rw c.lengths-l.ensures at c.in_ok-drop.ensures) c.in_err-has_own.ensures) (not_zero _))

pub locate-requires : goal.locate-requires
unfolding refusals_of
locate-requires c =
    let a = c.args in
    let o = handed a.code a.n a.sheet.now a.marks.now Drop a.claim.now a.owned a.own.now a.out.now in
    let v = judged_own o (rw c.lengths-l.ensures at c.in_ok-drop.ensures) c.in_ok-has_own.ensures in
    let m = marks_fit o v c.in_ok-has_own.ensures c.drop-saved.ensures in
    (m.0, m.1, stale_else o v c.drop-saved.ensures _ refl)

pub returns : goal.returns
unfolding refusals_of
returns c =
    let a = c.args in
    let o = handed a.code a.n a.sheet.now a.marks.now Drop a.claim.now a.owned a.own.now a.out.now in
    located_so o (judged_own o (rw c.lengths-l.ensures at c.in_ok-drop.ensures) c.in_ok-has_own.ensures) c.drop-saved.ensures c.locate.ensures
