-- `injection_back::unrings` meets its contract: the rings of each w.
-- Assumes nothing.
use Rattle.definition.specs.Width.{block_count}
use Rattle.definition.specs.State.{five, blocks_in}
use Rattle.back_definition.specs.Injection.{from_last, unring}
use Rattle.injection_back.specs.Parts.{unrings_at}
use Rattle.injection_back.proofs.unrings.Goals as goal

pub returns-in-W3 : goal.returns-in-W3
unfolding unrings_at
returns-in-W3 c = rw c.in-W3.is

pub returns-in-W4 : goal.returns-in-W4
unfolding unrings_at blocks_in five block_count unring from_last
returns-in-W4 c = rw (c.in-W4.is, c.unring.ensures)

pub returns-in-W5 : goal.returns-in-W5
unfolding unrings_at blocks_in five block_count unring from_last
returns-in-W5 c = rw (c.in-W5.is, c.reverse-in-W5.ensures.after, c.unring-e.ensures, c.reverse.ensures.after, c.unring-x.ensures)
