-- `plan_record::link` meets its contract: two numbers, one after the other.
-- Assumes nothing.
use Rattle.plan_definition.specs.Well.{link_at}
use Rattle.plan_record.proofs.link.Goals as goal

pub returns : goal.returns
unfolding link_at
returns c = λ i. record { injector = c.two.ensures i; share = c.two-2.ensures i }
