-- `hash_kept::within` meets its contract: odd bits never make up for a whole byte.
-- Assumes nothing.
use Rattle.hash_kept.proofs.Limit.{under}
use Rattle.hash_kept.proofs.within.Goals as goal

pub returns : goal.returns
returns c = let a = c.args in rw (← c.byte_limit.ensures) (under a.count a.odd c.byte_limit.result c.requires)
