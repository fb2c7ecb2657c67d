-- `sheet_marks::block` meets its contract: zero, or eight words in order.
-- Assumes nothing.
use Rattle.definition.specs.Block.{block_from}
use Rattle.sheet_marks.specs.Total.{when_used}
use Rattle.sheet_marks.proofs.block.Goals as goal

pub returns-then-not-used : goal.returns-then-not-used
unfolding when_used
returns-then-not-used c = rw c.if-not-used.true

pub returns : goal.returns
unfolding when_used block_from
returns c = rw c.if-not-used.false
