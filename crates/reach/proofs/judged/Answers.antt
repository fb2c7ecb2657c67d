-- `reach::judged` meets its contract: 5, 19 and 20 in turn, the last by what the check says.
-- Assumes nothing.
use mathlib.Core.Path.{◌≡◌, sym, ap, ◌∙◌}
use mathlib.Core.Bool.{Bool, not}
use mathlib.Core.List.{[], ◌∷◌}
use native.Mathlib.Omega.{arith}
use lib.ListN.{length}
use Rattle.definition.specs.Refusal.{UNSOUND, first_of}
use Rattle.refusals.proofs.Judged.{refused, passed}
use Rattle.sheet_definition.specs.Refusals.{sheet_refusal}
use Rattle.plan_definition.specs.Well.{wells}
use Rattle.plan_definition.specs.Check.{sound, check_refusals}
use Rattle.plan_definition.proofs.Verdicts.{room}
use Rattle.plan_definition.proofs.Tested.{says}
use Rattle.reach.proofs.judged.Goals as goal

pub returns-in_err-has_records : goal.returns-in_err-has_records
unfolding sheet_refusal
returns-in_err-has_records c = refused _ _ (_ ∷ []) (_ ∷ _ ∷ []) c.from_residual.ensures.1 c.in_err-has_records.ensures

pub returns-in_err-when : goal.returns-in_err-when
unfolding sheet_refusal
returns-in_err-when c =
    refused _ _ (_ ∷ []) (_ ∷ []) c.from_residual-in_err-when.ensures.1 c.in_err-when.ensures
    ∙ sym (passed (_ ∷ []) (_ ∷ _ ∷ []) (omega arith) c.in_ok-has_records.ensures)

pub returns : goal.returns
unfolding sheet_refusal check_refusals
returns c =
    let a = c.args in
    let r = (room a.n (length a.sheet.now)).0 (sym c.in_ok-has_records.ensures) in
    let says_so : c.says_sound.result ≡ sound (wells a.n a.sheet.now) = c.says_sound.ensures ∙ says a.n a.sheet.now _ r.0 r.1 c.check.ensures in
    c.when-2.ensures ∙ ap (λ (b : Bool). first_of ((UNSOUND, not b) ∷ [])) says_so
    ∙ sym (passed (_ ∷ []) (_ ∷ _ ∷ []) (omega arith) c.in_ok-has_records.ensures ∙ passed (_ ∷ []) (_ ∷ []) (omega arith) c.in_ok-when.ensures)
