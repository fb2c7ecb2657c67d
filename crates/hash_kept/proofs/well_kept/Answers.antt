-- `hash_kept::well_kept` meets its contract: both tests are the definition's.
-- Assumes nothing.
use Rattle.hash_definition.specs.Record.{well_kept}
use Rattle.hash_kept.proofs.well_kept.Goals as goal

pub returns : goal.returns
unfolding well_kept
returns c =
    rw (c.well_held-rest.ensures, c.held.ensures, c.unused_zero-unused.ensures, c.width.ensures)
