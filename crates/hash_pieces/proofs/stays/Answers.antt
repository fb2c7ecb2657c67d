-- `hash_pieces::stays` meets its contract: the piece is pasted behind the pending bytes, and counted.
-- Assumes nothing.
use Rattle.hash_pieces.specs.Short.{stays_of}
use Rattle.hash_pieces.proofs.stays.Goals as goal

pub returns : goal.returns
unfolding stays_of
returns c = rw (c.pasted.ensures, c.counted-high.ensures)
