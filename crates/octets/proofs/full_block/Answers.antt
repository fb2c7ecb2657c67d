-- `octets::full_block` meets its contract: its words are those of 2.2.
-- Assumes nothing.
use Rattle.definition.specs.Block.{word_at, block_of}
use Rattle.octets.proofs.full_block.Goals as goal

pub returns : goal.returns
unfolding word_at block_of
returns c =
    λ i. record {
      a0 = c.word_at.ensures i;
      a1 = c.word_at-2.ensures i;
      a2 = c.word_at-3.ensures i;
      a3 = c.word_at-4.ensures i;
      a4 = c.word_at-5.ensures i;
      a5 = c.word_at-6.ensures i;
      a6 = c.word_at-7.ensures i;
      a7 = c.word_at-8.ensures i;
    }
