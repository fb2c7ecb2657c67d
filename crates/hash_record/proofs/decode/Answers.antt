-- `hash_record::decode` meets its contract: its parts, put together.
-- Assumes nothing.
use Rattle.hash_definition.specs.Record.{decode, held_of}
use Rattle.hash_record.proofs.decode.Goals as goal

pub returns : goal.returns
unfolding decode held_of
returns c =
    let h = c.held_in-odd.ensures in
    λ i. record {
      code = c.from.ensures i;
      odd = (h i).odd;
      state = c.state_in.ensures i;
      pending = (h i).pending;
      high = (h i).high;
      low = (h i).low;
    }
