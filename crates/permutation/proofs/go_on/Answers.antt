-- `permutation::go_on` meets its contract: two applications of the generator, and the step with the t_r of each.
-- Assumes nothing.
use Rattle.permutation.specs.Lanes.{go_on}
use Rattle.permutation.proofs.go_on.Goals as goal

pub returns : goal.returns
unfolding go_on
returns g c =
    rw (c.step.ensures, c.right.ensures, c.right-2.ensures, c.turn-t2.ensures, c.turn-t1.ensures)
