-- `blocks::with_each` meets its contract: the other state is the block five times.
-- Assumes nothing.
use Rattle.definition.specs.State.{state_of}
use Rattle.blocks.proofs.with_each.Goals as goal

pub returns : goal.returns
unfolding state_of
returns c = c.bitxor.ensures
