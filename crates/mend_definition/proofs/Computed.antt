-- The line `unfolding everything` opens all definitions of Luffa, of the sheet and of mending, so that the checker computes them.
use Rattle.sheet_definition.proofs.Computed.{everything as sheets}
use Rattle.sheet_definition.specs.Marks.{state_after}
use Rattle.mend_definition.specs.Mend.{true_mark, is_wrong, replaced, wrong_of, first_in, saying, mend_rounds, mend_refusals, mend}
use Rattle.mend_definition.specs.Said.{opening_number, opened}

unfoldable pub everything : Unit {0}
unfolding sheets state_after true_mark is_wrong replaced wrong_of first_in saying mend_rounds mend_refusals mend opening_number opened
everything = tt
