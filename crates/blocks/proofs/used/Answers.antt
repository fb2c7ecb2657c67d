-- `blocks::used` meets its contract, at each w.
-- Assumes nothing.
use Rattle.definition.specs.Width.{block_count}
use Rattle.definition.specs.State.{five, blocks_in, state_of}
use Rattle.blocks.proofs.used.Goals as goal

pub returns-in-W3 : goal.returns-in-W3
unfolding blocks_in five block_count state_of
returns-in-W3 c = rw c.in-W3.is

pub returns-in-W4 : goal.returns-in-W4
unfolding blocks_in five block_count state_of
returns-in-W4 c = rw c.in-W4.is

pub returns-in-W5 : goal.returns-in-W5
unfolding blocks_in five block_count state_of
returns-in-W5 c = rw c.in-W5.is
