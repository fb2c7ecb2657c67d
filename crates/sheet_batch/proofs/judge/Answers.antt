-- `sheet_batch::judge` meets its contract: the refusals of a build, and then its own in turn.
-- Assumes nothing.
use mathlib.Core.Path.{sym, ◌∙◌}
use mathlib.Core.List.{[], ◌∷◌}
use native.Mathlib.Omega.{arith}
use Rattle.sheet_definition.specs.Refusals.{set_refusal, places_refusal, build_refusals, batch_refusals}
use Rattle.sheet_definition.proofs.Refused.{built_numbered}
use Rattle.refusals.proofs.Judged.{refused, passed}
use Rattle.sheet_batch.proofs.judge.Goals as goal

pub returns-in_err-build : goal.returns-in_err-build
unfolding batch_refusals
returns-in_err-build c = refused _ _ (build_refusals _) _ c.from_residual.ensures.1 c.in_err-build.ensures

pub returns-in_err-rise : goal.returns-in_err-rise
unfolding batch_refusals
returns-in_err-rise c =
    refused _ _ (_ ∷ []) (_ ∷ _ ∷ _ ∷ []) c.from_residual-in_err-rise.ensures.1 c.in_err-rise.ensures
    ∙ sym (passed (build_refusals _) _ (built_numbered _) c.in_ok-build.ensures)

pub returns-in_err-have : goal.returns-in_err-have
unfolding batch_refusals set_refusal
returns-in_err-have c =
    refused _ _ (_ ∷ []) (_ ∷ _ ∷ []) c.from_residual-in_err-have.ensures.1 c.in_err-have.ensures
    ∙ sym (passed (_ ∷ []) (_ ∷ _ ∷ _ ∷ []) (omega arith) c.in_ok-rise.ensures)
    ∙ sym (passed (build_refusals _) _ (built_numbered _) c.in_ok-build.ensures)

pub returns : goal.returns
unfolding batch_refusals set_refusal places_refusal
returns c =
    c.sized.ensures
    ∙ sym (passed (_ ∷ []) (_ ∷ _ ∷ []) (omega arith) c.in_ok-have.ensures)
    ∙ sym (passed (_ ∷ []) (_ ∷ _ ∷ _ ∷ []) (omega arith) c.in_ok-rise.ensures)
    ∙ sym (passed (build_refusals _) _ (built_numbered _) c.in_ok-build.ensures)
