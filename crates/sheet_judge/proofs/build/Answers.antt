-- `sheet_judge::build` meets its contract: its four refusals in turn.
-- Assumes nothing.
use mathlib.Core.Path.{sym, ◌∙◌}
use mathlib.Core.List.{[], ◌∷◌}
use native.Mathlib.Omega.{arith}
use Rattle.definition.specs.Luffa.{bytes_at}
use Rattle.definition.specs.Refusal.{width_refusal, out_refusal}
use Rattle.sheet_definition.specs.Refusals.{sheet_refusal, marks_refusal, build_refusals}
use Rattle.definition.proofs.Refusals.{then_judged}
use Rattle.refusals.proofs.Judged.{refused, passed}
use Rattle.sheet_judge.proofs.build.Goals as goal

pub returns-in_err-known_code : goal.returns-in_err-known_code
unfolding build_refusals
returns-in_err-known_code c = refused _ _ (_ ∷ []) (_ ∷ _ ∷ _ ∷ []) c.from_residual.ensures.1 c.in_err-known_code.ensures

pub returns-in_err-room : goal.returns-in_err-room
unfolding build_refusals width_refusal bytes_at
returns-in_err-room c =
    refused _ _ (_ ∷ []) (_ ∷ _ ∷ []) c.from_residual-in_err-room.ensures.1 (rw c.words.ensures at c.in_err-room.ensures)
    ∙ sym (passed (_ ∷ []) (_ ∷ _ ∷ _ ∷ []) (omega arith) c.in_ok-known_code.ensures)

pub returns : goal.returns
unfolding build_refusals width_refusal out_refusal sheet_refusal marks_refusal bytes_at
returns c =
    then_judged (_ ∷ []) (_ ∷ []) (omega arith) c.in_turn.ensures c.has_records.ensures c.has_marks.ensures
    ∙ sym (passed (_ ∷ []) (_ ∷ _ ∷ []) (omega arith) (rw c.words.ensures at c.in_ok-room.ensures))
    ∙ sym (passed (_ ∷ []) (_ ∷ _ ∷ _ ∷ []) (omega arith) c.in_ok-known_code.ensures)
