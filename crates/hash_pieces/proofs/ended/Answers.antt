-- `hash_pieces::ended` meets its contract: the byte's odd bits are pasted behind the pending bytes.
-- Assumes nothing.
use Rattle.hash_pieces.specs.Short.{ended_of}
use Rattle.hash_pieces.proofs.ended.Goals as goal

pub returns : goal.returns
unfolding ended_of
returns c = rw (c.pasted.ensures, c.high_bits.ensures)
