-- XOR of two blocks meets its contract, whose definition has the same shape.
-- Assumes nothing.
use mathlib.Core.Path.{refl}
use Rattle.definition.specs.Block.{◌⊕◌}
use Rattle.definition.proofs.BlockBitXor.bitxor.Goals as goal

pub returns : goal.returns
unfolding ◌⊕◌
returns c = refl
