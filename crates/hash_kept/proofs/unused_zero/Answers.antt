-- `hash_kept::unused_zero` meets its contract, at each w.
-- Assumes nothing.
use Rattle.std.proofs.Common.{append-nil}
use Rattle.definition.specs.Width.{block_count}
use Rattle.definition.specs.State.{five}
use Rattle.definition.specs.Block.{words_of_all}
use Rattle.hash_definition.specs.Record.{all_zero}
use Rattle.hash_definition.proofs.Zeros.{zero-append}
use Rattle.hash_kept.proofs.unused_zero.Goals as goal

pub returns-in-W3 : goal.returns-in-W3
unfolding block_count five words_of_all
returns-in-W3 c =
    rw (c.in-W3.is, zero-append, append-nil, c.zero_block.ensures, c.zero_block-in-W3.ensures)

pub returns-in-W4 : goal.returns-in-W4
unfolding block_count five words_of_all
returns-in-W4 c = rw (c.in-W4.is, append-nil) c.zero_block-in-W4.ensures

pub returns-in-W5 : goal.returns-in-W5
unfolding block_count five words_of_all all_zero
returns-in-W5 c = rw c.in-W5.is
