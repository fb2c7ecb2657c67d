-- The round undone over five blocks by value.
-- Assumes nothing.
use Rattle.std.proofs.Common.{◌≡◌, refl}
use Rattle.definition.specs.declared.State.{State}
use Rattle.definition.specs.declared.Width.{Width}
use Rattle.definition.specs.declared.Width.TheVariants.{W3, W4, W5}
use Rattle.definition.specs.Width.{block_count}
use Rattle.definition.specs.State.{five, blocks_in, state_of}
use Rattle.back_definition.specs.Round.{permute_back_from}

pub permuted_used : (w : Width) (s : State) → blocks_in w (state_of (permute_back_from 0 (blocks_in w s))) ≡ permute_back_from 0 (blocks_in w s)
unfolding block_count five blocks_in state_of permute_back_from
permuted_used W3 s = refl
permuted_used W4 s = refl
permuted_used W5 s = refl
