-- `sheet_judge::has_place` meets its contract: the test is the refusal's condition.
-- Assumes nothing.
use Rattle.sheet_definition.specs.Refusals.{place_refusal}
use Rattle.sheet_judge.proofs.has_place.Goals as goal

pub returns : goal.returns
unfolding place_refusal
returns c = c.when.ensures
