-- `codes::width` meets its contract: Table 2 at each code.
-- Assumes nothing.
use mathlib.Core.Path.{sym}
use native.Mathlib.Omega.{arith}
use Rattle.definition.specs.Width.{width_at}
use Rattle.definition.proofs.Codes.{width-other}
use Rattle.codes.proofs.width.Goals as goal

pub returns-in-3 : goal.returns-in-3
unfolding width_at
returns-in-3 c = rw c.in-3.is

pub returns-in-4 : goal.returns-in-4
unfolding width_at
returns-in-4 c = rw c.in-4.is

pub returns-in_default : goal.returns-in_default
returns-in_default c = sym (width-other _ (λ e. omega arith) (λ e. omega arith))
