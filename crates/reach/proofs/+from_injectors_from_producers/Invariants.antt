-- Each one's measure is the hops left.
use Rattle.reach.proofs.+from_injectors_from_producers.Given as goal

abbrev pub decreases-from_injectors : goal.decreases-from_injectors
decreases-from_injectors l = l.hops

abbrev pub decreases-from_producers : goal.decreases-from_producers
decreases-from_producers l = l.hops
