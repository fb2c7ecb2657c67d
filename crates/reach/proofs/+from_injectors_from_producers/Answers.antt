-- `reach::from_injectors` and `reach::from_producers` meet their contracts: from injectors the producers that link them are marked, from producers
-- the injectors that they link are taken, and each goes on from there with a hop less.
use Rattle.reach.proofs.Hops.{no_hop, producers-on, injectors-on}
use Rattle.reach.proofs.+from_injectors_from_producers.Goals as goal

pub from_injectors-returns-then-hops-eq0 : goal.from_injectors-returns-then-hops-eq0
from_injectors-returns-then-hops-eq0 t c = no_hop 2 _ _ _ _ c.if-hops-eq0.true

pub from_injectors-returns : goal.from_injectors-returns
from_injectors-returns t c =
    injectors-on _ c.requires.sound _ c.if-hops-eq0.false _ _ _ _ _ c.mark.ensures (rw c.mark.auto.reached at c.from_producers.ensures)

pub from_producers-returns-then-hops-eq0 : goal.from_producers-returns-then-hops-eq0
from_producers-returns-then-hops-eq0 t c = no_hop 1 _ _ _ _ c.if-hops-eq0.true

pub from_producers-returns : goal.from_producers-returns
from_producers-returns t c =
    producers-on _ c.requires.sound _ c.if-hops-eq0.false _ _ _ _ _ c.take_linked.ensures c.from_injectors.ensures
