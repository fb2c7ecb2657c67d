-- `hash_record::pending_in` meets its contract: the 32 bytes where they lie.
-- Assumes nothing.
use Rattle.hash_definition.specs.Record.{decode}
use Rattle.hash_record.proofs.pending_in.Goals as goal

pub returns : goal.returns
unfolding decode
returns c = c.copy_from_slice.ensures.after
