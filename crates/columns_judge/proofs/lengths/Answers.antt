-- `columns_judge::lengths` meets its contract.
-- Assumes nothing.
use Rattle.columns_definition.specs.Columns.{columns_refusal}
use Rattle.columns_judge.proofs.lengths.Goals as goal

pub returns : goal.returns
unfolding columns_refusal
returns c = c.when.ensures
