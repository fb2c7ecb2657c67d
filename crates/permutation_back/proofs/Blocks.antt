-- Q_j undone on the first w of five blocks.
-- Assumes nothing.
use Rattle.std.proofs.Common.{◌≡◌, ltb, refl}
use Rattle.definition.specs.declared.State.{State}
use Rattle.definition.specs.declared.Width.{Width}
use Rattle.definition.specs.declared.Width.TheVariants.{W3, W4, W5}
use Rattle.definition.specs.Block.{zero_block}
use Rattle.definition.specs.Refusal.{pick}
use Rattle.definition.specs.Width.{block_count}
use Rattle.definition.specs.State.{five, blocks_in, state_of}
use Rattle.back_definition.specs.Step.{permute_back}
use Rattle.back_definition.specs.Round.{permute_back_from}

pub all_back : (w : Width) (s : State)
    → record {
      h0 = pick (ltb 0 (block_count w)) (permute_back 0 s.h0) zero_block;
      h1 = pick (ltb 1 (block_count w)) (permute_back 1 s.h1) zero_block;
      h2 = pick (ltb 2 (block_count w)) (permute_back 2 s.h2) zero_block;
      h3 = pick (ltb 3 (block_count w)) (permute_back 3 s.h3) zero_block;
      h4 = pick (ltb 4 (block_count w)) (permute_back 4 s.h4) zero_block;
    }
    ≡ state_of (permute_back_from 0 (blocks_in w s))
unfolding pick block_count five blocks_in state_of permute_back_from
all_back W3 s = refl
all_back W4 s = refl
all_back W5 s = refl
