-- `sheet_judge::sized` meets its contract: two refusals in turn.
-- Assumes nothing.
use mathlib.Core.Path.{sym, ◌∙◌}
use mathlib.Core.List.{[], ◌∷◌}
use native.Mathlib.Omega.{arith}
use Rattle.sheet_definition.specs.Refusals.{size_refusal}
use Rattle.refusals.proofs.Judged.{refused, passed}
use Rattle.sheet_judge.proofs.sized.Goals as goal

pub returns-in_err-records_size : goal.returns-in_err-records_size
returns-in_err-records_size c = refused _ _ (_ ∷ []) (_ ∷ []) c.from_residual.ensures.1 c.in_err-records_size.ensures

pub returns : goal.returns
unfolding size_refusal
returns c = c.claim_size.ensures ∙ sym (passed (_ ∷ []) (_ ∷ []) (omega arith) c.in_ok-records_size.ensures)
