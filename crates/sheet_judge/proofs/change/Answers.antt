-- `sheet_judge::change` meets its contract: the refusals of a build, and then its own in turn.
-- Assumes nothing.
use mathlib.Core.Path.{sym, ◌∙◌}
use mathlib.Core.List.{[], ◌∷◌}
use native.Mathlib.Omega.{arith}
use Rattle.sheet_definition.specs.Refusals.{place_refusal, build_refusals, change_refusals}
use Rattle.sheet_definition.proofs.Refused.{built_numbered}
use Rattle.refusals.proofs.Judged.{refused, passed}
use Rattle.sheet_judge.proofs.change.Goals as goal

pub returns-in_err-build : goal.returns-in_err-build
unfolding change_refusals
returns-in_err-build c = refused _ _ (build_refusals _) _ c.from_residual.ensures.1 c.in_err-build.ensures

pub returns-in_err-has_place : goal.returns-in_err-has_place
unfolding change_refusals
returns-in_err-has_place c =
    refused _ _ (_ ∷ []) (_ ∷ _ ∷ []) c.from_residual-in_err-has_place.ensures.1 c.in_err-has_place.ensures
    ∙ sym (passed (build_refusals _) _ (built_numbered _) c.in_ok-build.ensures)

pub returns : goal.returns
unfolding change_refusals place_refusal
returns c =
    c.sized.ensures
    ∙ sym (passed (_ ∷ []) (_ ∷ _ ∷ []) (omega arith) c.in_ok-has_place.ensures)
    ∙ sym (passed (build_refusals _) _ (built_numbered _) c.in_ok-build.ensures)
