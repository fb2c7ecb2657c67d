-- `hash_working::started` meets its contract: the starting state, and nothing fed.
-- Assumes nothing.
use Rattle.hash_definition.specs.Record.{started as started_of}
use Rattle.hash_working.proofs.started.Goals as goal

pub returns : goal.returns
unfolding started_of
returns c = rw (c.start.ensures, c.width-w.ensures)
