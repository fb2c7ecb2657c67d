-- `luffa::luffa_plan_check` meets its contract: the numbers of the verdict.
-- Assumes nothing.
use mathlib.Core.Path.{ap, ◌∙◌}
use Rattle.plan_definition.specs.Check.{answer_of}
use Rattle.luffa.proofs.luffa_plan_check.Goals as goal

pub returns : goal.returns
returns c = c.from.ensures ∙ ap answer_of c.check.ensures
