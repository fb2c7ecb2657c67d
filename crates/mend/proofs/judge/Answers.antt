-- `mend::judge` meets its contract: its three refusals in turn.
-- Assumes nothing.
use mathlib.Core.Path.{sym, ◌∙◌}
use mathlib.Core.List.{[], ◌∷◌}
use native.Mathlib.Omega.{arith}
use Rattle.definition.specs.Refusal.{width_refusal}
use Rattle.sheet_definition.specs.Refusals.{sheet_refusal}
use Rattle.refusals.proofs.Judged.{refused, passed}
use Rattle.mend.proofs.judge.Goals as goal

pub returns-in_err-known_code : goal.returns-in_err-known_code
returns-in_err-known_code c = refused _ _ (_ ∷ []) (_ ∷ _ ∷ []) c.from_residual.ensures.1 c.in_err-known_code.ensures

pub returns-in_err-has_records : goal.returns-in_err-has_records
unfolding width_refusal
returns-in_err-has_records c =
    refused _ _ (_ ∷ []) (_ ∷ []) c.from_residual-in_err-has_records.ensures.1 c.in_err-has_records.ensures
    ∙ sym (passed (_ ∷ []) (_ ∷ _ ∷ []) (omega arith) c.in_ok-known_code.ensures)

pub returns : goal.returns
unfolding width_refusal sheet_refusal
returns c =
    c.has_marks.ensures
    ∙ sym (passed (_ ∷ []) (_ ∷ []) (omega arith) c.in_ok-has_records.ensures)
    ∙ sym (passed (_ ∷ []) (_ ∷ _ ∷ []) (omega arith) c.in_ok-known_code.ensures)
