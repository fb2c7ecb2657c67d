-- `rounds::round` meets its contract: the injection leaves w blocks, which the permutation takes.
-- Assumes nothing.
use Rattle.definition.specs.Round.{round as round_of}
use Rattle.definition.proofs.Chain.{blocks_of_inject}
use Rattle.rounds.proofs.round.Goals as goal

pub returns : goal.returns
unfolding round_of
returns c = simp (c.permute.ensures, c.inject.ensures, blocks_of_inject)
