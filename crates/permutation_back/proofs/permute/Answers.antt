-- `permutation_back::permute` meets its contract: each block of the first w by itself.
-- Assumes nothing.
use Rattle.permutation_back.proofs.Blocks.{all_back}
use Rattle.permutation_back.proofs.permute.Goals as goal

pub returns : goal.returns
returns c =
    simp (
      c.block-5.ensures,
      c.block-4.ensures,
      c.block-3.ensures,
      c.block-2.ensures,
      c.block.ensures,
      c.count-n.ensures,
    )
    (all_back _ _)
