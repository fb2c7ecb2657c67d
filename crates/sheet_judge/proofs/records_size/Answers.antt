-- `sheet_judge::records_size` meets its contract: the test is the refusal's condition.
-- Assumes nothing.
use Rattle.sheet_definition.specs.Refusals.{size_refusal}
use Rattle.sheet_judge.proofs.Tests.{each_forty}
use Rattle.sheet_judge.proofs.records_size.Goals as goal

pub returns : goal.returns
unfolding size_refusal
returns c = rw each_forty at c.when.ensures
