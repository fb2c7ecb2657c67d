-- `hash_record::nothing` meets its contract: five blocks of zeros and 32 bytes of zeros.
-- Assumes nothing.
use mathlib.Core.Path.{refl}
use Rattle.definition.specs.State.{state_of}
use Rattle.hash_record.specs.Reading.{nothing}
use Rattle.hash_record.proofs.nothing.Goals as goal

pub returns : goal.returns
unfolding nothing state_of
returns c = refl
