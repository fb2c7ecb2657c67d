-- `sheet_judge::list_room` meets its contract: the test is the refusal's condition.
-- Assumes nothing.
use Rattle.sheet_definition.specs.Refusals.{list_refusal}
use Rattle.sheet_judge.proofs.list_room.Goals as goal

pub returns : goal.returns
unfolding list_refusal
returns c = c.when.ensures
