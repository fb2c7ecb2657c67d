-- `hash_kept::with_held` meets its contract, field by field.
-- Assumes nothing.
use Rattle.std.proofs.Common.{refl}
use Rattle.hash_definition.specs.Record.{with_held}
use Rattle.hash_kept.proofs.with_held.Goals as goal

pub returns : goal.returns
unfolding with_held
returns c = refl
