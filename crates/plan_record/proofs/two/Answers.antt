-- `plan_record::two` meets its contract: the sum of two bytes, the first 256 times.
-- Assumes nothing.
use mathlib.Core.Path.{◌∙◌}
use native.Mathlib.Omega.{arith}
use Rattle.plan_definition.specs.Well.{two}
use Rattle.plan_record.proofs.two.Goals as goal

pub returns : goal.returns
unfolding two
returns c = c.from_be_bytes.ensures ∙ omega arith
