-- `step::mix_word` meets its contract: the code has the shape of 4.3's equations, and the library's rotation is theirs.
-- Assumes nothing.
use Rattle.definition.specs.Word.{rotl}
use Rattle.definition.specs.MixWord.{mix_word}
use Rattle.step.proofs.mix_word.Goals as goal

pub returns : goal.returns
unfolding mix_word rotl
returns c = rw (c.rotate_left-4.ensures, c.rotate_left-3.ensures, c.rotate_left-2.ensures, c.rotate_left.ensures)
