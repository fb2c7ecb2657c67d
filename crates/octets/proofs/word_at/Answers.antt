-- `octets::word_at` meets its contract: the sum is 2.2's.
-- Assumes nothing.
use Rattle.definition.specs.Word.{word_of}
use Rattle.octets.proofs.word_at.Goals as goal

pub returns : goal.returns
unfolding word_of
returns c = c.from_be_bytes.ensures
