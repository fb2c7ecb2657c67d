-- `blocks::count` meets its contract, at each w.
-- Assumes nothing.
use Rattle.definition.specs.Width.{block_count}
use Rattle.blocks.proofs.count.Goals as goal

pub returns-in-W3 : goal.returns-in-W3
unfolding block_count
returns-in-W3 c = rw c.in-W3.is

pub returns-in-W4 : goal.returns-in-W4
unfolding block_count
returns-in-W4 c = rw c.in-W4.is

pub returns-in-W5 : goal.returns-in-W5
unfolding block_count
returns-in-W5 c = rw c.in-W5.is
