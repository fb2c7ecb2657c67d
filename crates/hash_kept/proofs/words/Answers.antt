-- `hash_kept::words` meets its contract: the test is the refusal's condition.
-- Assumes nothing.
use Rattle.hash_definition.specs.Output.{words_refusal}
use Rattle.hash_kept.proofs.words.Goals as goal

pub returns : goal.returns
unfolding words_refusal
returns c = c.when.ensures
