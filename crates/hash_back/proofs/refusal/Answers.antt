-- `hash_back::refusal` meets its contract: the test is the refusal's condition, with the count as one number.
-- Assumes nothing.
use Rattle.hash_definition.specs.Record.{pending_count, bytes_fed}
use Rattle.back_definition.specs.Back.{back_refusal}
use Rattle.hash_back.proofs.refusal.Goals as goal

pub returns : goal.returns
unfolding back_refusal pending_count bytes_fed
returns c = rw c.count-count.ensures at c.when.ensures
