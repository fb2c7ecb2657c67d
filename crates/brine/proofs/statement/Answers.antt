-- `brine::statement` meets its contract: refused, with the lists as they were, or sheet after sheet.
-- Assumes nothing.
use mathlib.Core.Path.{sym}
use Rattle.definition.proofs.Refusals.{not_done}
use Rattle.refusals.specs.Number.{number}
use Rattle.refusals.proofs.Judged.{not_zero}
use Rattle.brine_definition.specs.Statement.{brine_outcome}
use Rattle.brine.proofs.statement.Goals as goal

pub returns-in-Err : goal.returns-in-Err
unfolding brine_outcome
returns-in-Err c =
    let r = c.in-Err.refusal in
    rw (c.refused.ensures, ← c.in-Err.ensures) (sym (not_done (number r) _ _ (not_zero r)))
