-- `blocks::words` meets its contract: forty words in their order.
-- Assumes nothing.
use mathlib.Core.Path.{refl}
use Rattle.definition.specs.Block.{words_of, words_of_all}
use Rattle.definition.specs.State.{five}
use Rattle.blocks.proofs.words.Goals as goal

pub returns : goal.returns
unfolding words_of_all five words_of
returns c = refl
