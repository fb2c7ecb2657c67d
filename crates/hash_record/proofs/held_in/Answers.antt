-- `hash_record::held_in` meets its contract: its parts, put together.
-- Assumes nothing.
use Rattle.hash_definition.specs.Record.{decode, held_of}
use Rattle.hash_record.proofs.held_in.Goals as goal

pub returns : goal.returns
unfolding decode held_of
returns c =
    λ i. record {
      odd = c.from.ensures i;
      pending = c.pending_in.ensures i;
      high = c.number_at.ensures i;
      low = c.number_at-2.ensures i;
    }
