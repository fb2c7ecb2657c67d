-- `sheet_marks::write` meets its contract: the words of the five blocks in order, or there is no room for them.
-- Assumes nothing.
use mathlib.Core.Path.{sym, ◌∙◌}
use native.Mathlib.Omega.{arith}
use Rattle.definition.specs.Block.{words_of, words_of_all}
use Rattle.definition.specs.State.{five}
use Rattle.octets.proofs.Total.{put_part, write_not}
use Rattle.sheet_marks.proofs.write.Goals as goal

pub returns-then-m-marks : goal.returns-then-m-marks
unfolding words_of_all five words_of
returns-then-m-marks c =
    put_part _ _ (words_of_all (five c.args.s)) _ _ (omega arith) (omega arith) (c.copy_from_slice.ensures.after ∙ c.words.ensures)

pub returns-else-m-marks : goal.returns-else-m-marks
unfolding words_of_all five words_of
returns-else-m-marks c = sym (write_not _ (words_of_all (five c.args.s)) _ (omega arith))
