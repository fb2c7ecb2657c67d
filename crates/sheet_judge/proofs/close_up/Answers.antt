-- `sheet_judge::close_up` meets its contract: the refusals of a build, and then its own in turn.
-- Assumes nothing.
use mathlib.Core.Path.{sym, ◌∙◌}
use mathlib.Core.List.{[], ◌∷◌}
use native.Mathlib.Omega.{arith}
use Rattle.sheet_definition.specs.Refusals.{list_refusal, build_refusals, close_up_refusals}
use Rattle.sheet_definition.proofs.Refused.{built_numbered}
use Rattle.refusals.proofs.Judged.{refused, passed}
use Rattle.sheet_judge.proofs.close_up.Goals as goal

pub returns-in_err-build : goal.returns-in_err-build
unfolding close_up_refusals
returns-in_err-build c = refused _ _ (build_refusals _) _ c.from_residual.ensures.1 c.in_err-build.ensures

pub returns-in_err-list_room : goal.returns-in_err-list_room
unfolding close_up_refusals
returns-in_err-list_room c =
    refused _ _ (_ ∷ []) (_ ∷ []) c.from_residual-in_err-list_room.ensures.1 c.in_err-list_room.ensures
    ∙ sym (passed (build_refusals _) _ (built_numbered _) c.in_ok-build.ensures)

pub returns : goal.returns
unfolding close_up_refusals list_refusal
returns c =
    c.claim_size.ensures
    ∙ sym (passed (_ ∷ []) (_ ∷ []) (omega arith) c.in_ok-list_room.ensures)
    ∙ sym (passed (build_refusals _) _ (built_numbered _) c.in_ok-build.ensures)
