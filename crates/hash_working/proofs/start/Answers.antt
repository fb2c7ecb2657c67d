-- `hash_working::start` meets its contract: the code alone is judged, and a known one is started at.
-- Assumes nothing.
use Rattle.std.proofs.Common.{[], refl, ap, ◌∙◌}
use mathlib.Core.List.{◌∷◌}
use Rattle.refusals.proofs.Judged.{refused, isnt_done}
use Rattle.hash_definition.specs.Lent.{lent_start_refusals, lent_start_outcome}
use Rattle.hash_definition.specs.Said.{taken}
use Rattle.hash_definition.proofs.Refused.{lent-refused, lent-accepted}
use Rattle.hash_working.proofs.start.Goals as goal

pub returns-in_err-known_code : goal.returns-in_err-known_code
unfolding lent_start_outcome lent_start_refusals
returns-in_err-known_code c =
    let r = c.from_residual.ensures.1 in
    lent-refused _ (refused _ _ (_ ∷ []) [] r c.in_err-known_code.ensures) _ _ (isnt_done _ _ r)

pub returns : goal.returns
unfolding lent_start_outcome lent_start_refusals
returns c = ap taken c.started.ensures ∙ lent-accepted _ c.in_ok-known_code.ensures _ _ refl
