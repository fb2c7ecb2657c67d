-- The line `unfolding everything` opens all definitions of who depends on a well, with those of the check, so that the checker computes them.
use Rattle.plan_definition.proofs.Computed.{everything as check}
use Rattle.reach_definition.specs.Reach.{names, links_to, reaches, joined, marks, reach_refusals, reach_outcome}

unfoldable pub everything : Unit {0}
unfolding check names links_to reaches joined marks reach_refusals reach_outcome
everything = tt
