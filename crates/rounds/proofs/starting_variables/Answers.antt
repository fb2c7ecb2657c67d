-- `rounds::starting_variables` meets its contract: they are Appendix A's.
-- Assumes nothing.
use Rattle.std.proofs.Common.{refl}
use Rattle.definition.specs.Start.{starting_variables}
use Rattle.definition.specs.State.{state_of}
use Rattle.rounds.proofs.starting_variables.Goals as goal

pub returns : goal.returns
unfolding starting_variables state_of
returns c = refl
