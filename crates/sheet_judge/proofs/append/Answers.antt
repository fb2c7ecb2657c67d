-- `sheet_judge::append` meets its contract: the refusals of a build, and then its own in turn.
-- Assumes nothing.
use mathlib.Core.Path.{sym, ◌∙◌}
use mathlib.Core.List.{[], ◌∷◌}
use native.Mathlib.Omega.{arith}
use Rattle.sheet_definition.specs.Refusals.{full_refusal, build_refusals, append_refusals}
use Rattle.sheet_definition.proofs.Refused.{built_numbered}
use Rattle.refusals.proofs.Judged.{refused, passed}
use Rattle.sheet_judge.proofs.append.Goals as goal

pub returns-in_err-build : goal.returns-in_err-build
unfolding append_refusals
returns-in_err-build c = refused _ _ (build_refusals _) _ c.from_residual.ensures.1 c.in_err-build.ensures

pub returns-in_err-one_more : goal.returns-in_err-one_more
unfolding append_refusals
returns-in_err-one_more c =
    refused _ _ (_ ∷ []) (_ ∷ _ ∷ []) c.from_residual-in_err-one_more.ensures.1 c.in_err-one_more.ensures
    ∙ sym (passed (build_refusals _) _ (built_numbered _) c.in_ok-build.ensures)

pub returns : goal.returns
unfolding append_refusals full_refusal
returns c =
    c.sized.ensures
    ∙ sym (passed (_ ∷ []) (_ ∷ _ ∷ []) (omega arith) c.in_ok-one_more.ensures)
    ∙ sym (passed (build_refusals _) _ (built_numbered _) c.in_ok-build.ensures)
