-- `hash_kept::held` meets its contract, field by field.
-- Assumes nothing.
use Rattle.std.proofs.Common.{refl}
use Rattle.hash_definition.specs.Record.{held_of}
use Rattle.hash_kept.proofs.held.Goals as goal

pub returns : goal.returns
unfolding held_of
returns c = refl
