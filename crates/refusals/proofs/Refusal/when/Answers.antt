-- `Refusal::when` meets its contract: the refusal's number where the condition holds, else 0.
-- Assumes nothing.
use Rattle.definition.specs.Refusal.{pick, first_of}
use Rattle.refusals.proofs.Refusal.when.Goals as goal

pub returns-then-holds : goal.returns-then-holds
unfolding first_of pick
returns-then-holds c = rw c.if-holds.true

pub returns-else-holds : goal.returns-else-holds
unfolding first_of pick
returns-else-holds c = rw c.if-holds.false
