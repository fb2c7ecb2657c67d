-- `rounds::start` meets its contract: the first w of Appendix A's blocks.
-- Assumes nothing.
use Rattle.definition.specs.Start.{starting_variables, start as start_of}
use Rattle.definition.specs.State.{five, blocks_in, state_of}
use Rattle.rounds.proofs.start.Goals as goal

pub returns : goal.returns
unfolding start_of blocks_in five starting_variables state_of
returns c = simp (c.used.ensures, c.starting_variables.ensures)
