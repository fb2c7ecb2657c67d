-- `hash_kept::count` meets its contract: the high word counts 2^64 each.
-- Assumes nothing.
use Rattle.hash_definition.specs.Record.{count_of}
use Rattle.hash_kept.proofs.count.Goals as goal

pub returns : goal.returns
unfolding count_of
returns c = rw (c.from.ensures, c.from-2.ensures)
