-- `hash_record::put_held` meets its contract: odd bits, pending bytes and count, each written where it stands.
-- Assumes nothing.
use mathlib.Core.Path.{◌∙◌}
use Rattle.hash_definition.specs.Record.{count_words}
use Rattle.hash_record.specs.Reading.{held_written}
use Rattle.hash_record.proofs.put_held.Goals as goal

pub returns : goal.returns
unfolding held_written count_words
returns c =
    c.put_words.ensures ∙ rw (c.put_bytes-2.ensures, c.put_bytes.ensures)
