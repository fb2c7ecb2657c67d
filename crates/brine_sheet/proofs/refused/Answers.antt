-- `brine_sheet::refused` meets its contract: its number, and the default's zeros.
-- Assumes nothing.
use mathlib.Core.Path.{◌∙◌}
use Rattle.brine_definition.specs.Statement.{refused_by}
use Rattle.brine_sheet.proofs.Rows.{no_figures}
use Rattle.brine_sheet.proofs.refused.Goals as goal

pub returns : goal.returns
unfolding refused_by
returns c =
    let k = c.from-2.ensures ∙ c.from.ensures in
    let zeros = no_figures c.default.result c.default.ensures in
    λ i. record { number = k i; sound = (zeros i).sound; faulted = (zeros i).faulted; intake = (zeros i).intake; overloaded = (zeros i).overloaded }
