-- A ring of any number of blocks, undone from its last block on: what is known of the block before a place, and the blocks from there on.
-- Assumes nothing.
use Rattle.std.proofs.Common.{◌≡◌, ℕ, List, [], ◌∷◌, refl}
use Rattle.definition.specs.declared.Block.{Block}
use Rattle.definition.specs.Block.{◌⊕◌}
use Rattle.definition.specs.Field.{double, times}
use Rattle.back_definition.specs.Injection.{ring_sum, from_last, unring}

-- the block before these, and these, where the last of the ring is known
unfoldable pub next : Block → List Block → Block
next last [] = last
next last (y ∷ ys) = y ⊕ double (next last ys)

unfoldable pub solved : Block → List Block → List Block
solved last [] = []
solved last (y ∷ ys) = next last ys ∷ solved last ys

from_next : (last : Block) (ys : List Block) → from_last last ys ≡ next last ys ∷ solved last ys
unfolding from_last next solved
from_next last [] = refl
from_next last (y ∷ ys) = rw (from_next last ys)

pub all_solved : (inverse : ℕ) (ys : List Block) → solved (times inverse (ring_sum ys)) ys ≡ unring inverse ys
unfolding unring solved
all_solved inverse [] = refl
all_solved inverse (y ∷ ys) = rw (from_next (times inverse (ring_sum (y ∷ ys))) ys)
