-- `sheet_work::admit` meets its contract: refused by its arguments, or what the check found.
-- Assumes nothing.
use mathlib.Core.Path.{sym}
use Rattle.std.proofs.lemmas.Result.{err_from_is_err_and}
use Rattle.definition.proofs.Refusals.{not_done}
use Rattle.refusals.proofs.Judged.{not_zero}
use Rattle.sheet_work.specs.Admission.{admission}
use Rattle.sheet_work.proofs.admit.Goals as goal

pub returns-in_err-judged-clause-value : goal.returns-in_err-judged-clause-value
unfolding admission
returns-in_err-judged-clause-value c =
    let p = err_from_is_err_and c.from_residual.result c.from_residual.ensures.1 in
    rw (p.1, p.2, c.in_err-judged.was) (sym (not_done _ _ _ (not_zero _)))
