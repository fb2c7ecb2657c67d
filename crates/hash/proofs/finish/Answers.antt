-- `hash::finish` meets its contract: a record is finished as what one reading of it gives.
-- Assumes nothing.
use mathlib.Core.Path.{◌∙◌}
use Rattle.hash.proofs.Read.{finish-read}
use Rattle.hash.proofs.finish.Goals as goal

pub returns : goal.returns
returns c =
    (rw c.read.ensures at c.finish.ensures) ∙ finish-read _ _
