-- `octets::put_word` meets its contract: four bytes are put.
-- Assumes nothing.
use Rattle.definition.specs.Word.{bytes_of}
use Rattle.octets.proofs.put_word.Goals as goal

pub returns : goal.returns
unfolding bytes_of
returns c = rw c.to_be_bytes.ensures at c.put_bytes.ensures
