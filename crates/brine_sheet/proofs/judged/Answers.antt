-- `brine_sheet::judged` meets its contract: 5 and 25 in turn.
-- Assumes nothing.
use mathlib.Core.Path.{sym, ◌∙◌}
use mathlib.Core.List.{[], ◌∷◌}
use native.Mathlib.Omega.{arith}
use Rattle.sheet_definition.specs.Refusals.{sheet_refusal}
use Rattle.refusals.proofs.Judged.{refused, passed}
use Rattle.brine_sheet.proofs.Alone.{alone}
use Rattle.brine_sheet.proofs.judged.Goals as goal

pub returns-in_err-has_records : goal.returns-in_err-has_records
unfolding sheet_refusal
returns-in_err-has_records c =
    let a = c.args in
    refused _ _ (_ ∷ []) (_ ∷ []) c.from_residual.ensures.1 c.in_err-has_records.ensures ∙ sym (alone a.sheet a.n a.intake a.spare)

pub returns : goal.returns
unfolding sheet_refusal
returns c =
    let a = c.args in
    c.listed.ensures ∙ sym (alone a.sheet a.n a.intake a.spare ∙ passed (_ ∷ []) (_ ∷ []) (omega arith) c.in_ok-has_records.ensures)
