-- `refusals::known_code` meets its contract: the test is the refusal's condition.
-- Assumes nothing.
use Rattle.definition.specs.Refusal.{width_refusal}
use Rattle.refusals.proofs.known_code.Goals as goal

pub returns : goal.returns
unfolding width_refusal
returns c = rw c.known.ensures at c.when.ensures
