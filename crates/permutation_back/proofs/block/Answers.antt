-- `permutation_back::block` meets its contract: the steps and then the tweak, where there is the block.
-- Assumes nothing.
use Rattle.std.proofs.Common.{ap, ◌∙◌, le-ltb, lt-ltb}
use Rattle.definition.specs.Constant.{constants, initial}
use Rattle.definition.specs.Permutation.{tweak}
use Rattle.definition.specs.Refusal.{pick}
use Rattle.back_definition.specs.Step.{tweak_back, permute_back}
use Rattle.permutation_back.proofs.block.Goals as goal

pub returns-then-j-n : goal.returns-then-j-n
unfolding pick permute_back tweak_back constants initial
returns-then-j-n c =
    rw (lt-ltb _ _ c.if-j-n.true) (c.tweak.ensures ∙ ap (tweak _) c.steps.ensures)

pub returns-else-j-n : goal.returns-else-j-n
unfolding pick
returns-else-j-n c = rw (le-ltb _ _ c.if-j-n.false)
