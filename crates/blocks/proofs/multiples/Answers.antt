-- `blocks::multiples` meets its contract: each is the one before it doubled.
-- Assumes nothing.
use Rattle.definition.specs.State.{state_of}
use Rattle.blocks.proofs.multiples.Goals as goal

pub returns : goal.returns
unfolding state_of
returns c = rw (c.double-m4.ensures, c.double-m3.ensures, c.double-m2.ensures, c.double-m1.ensures)
