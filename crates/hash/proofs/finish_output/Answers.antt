-- `hash::finish_output` meets its contract: a record's output is that of what one reading of it gives.
-- Assumes nothing.
use mathlib.Core.Path.{◌∙◌}
use Rattle.hash.proofs.Read.{finish_output_read}
use Rattle.hash.proofs.finish_output.Goals as goal

pub returns : goal.returns
returns c =
    (rw c.read.ensures at c.finish_output.ensures) ∙ finish_output_read _ _ _
