-- `rounds::counted_round` meets its contract: the round, and the count one higher.
-- Assumes nothing.
use Rattle.definition.specs.Counted.{counted_round}
use Rattle.rounds.proofs.counted_round.Goals as goal

pub returns : goal.returns
unfolding counted_round
returns c = rw c.round.ensures
