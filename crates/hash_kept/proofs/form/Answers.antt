-- `hash_kept::form` meets its contract: the test is the refusal's condition.
-- Assumes nothing.
use Rattle.hash_definition.specs.Lent.{kept_refusal}
use Rattle.hash_kept.proofs.form.Goals as goal

pub returns : goal.returns
unfolding kept_refusal
returns c = rw c.well_kept.ensures at c.when.ensures
