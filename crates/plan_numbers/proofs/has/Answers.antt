-- `plan_numbers::has` meets its contract: it looks at the bit of the word.
-- Assumes nothing.
use Rattle.definition.specs.Word.{bit}
use Rattle.plan_numbers.specs.Numbers.{has}
use Rattle.plan_numbers.proofs.has.Goals as goal

pub returns : goal.returns
unfolding has bit
returns c = rw c.from-i.ensures
