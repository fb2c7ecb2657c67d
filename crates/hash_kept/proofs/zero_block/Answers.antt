-- `hash_kept::zero_block` meets its contract: the OR of words is zero where each is.
-- Assumes nothing.
use mathlib.Core.Bool.{and-true}
use Rattle.definition.specs.Block.{words_of}
use Rattle.hash_definition.specs.Record.{all_zero}
use Rattle.hash_kept.proofs.Tests.{or_zero}
use Rattle.hash_kept.proofs.zero_block.Goals as goal

pub returns : goal.returns
unfolding all_zero words_of
returns c = simp (or_zero, and-true)
