-- The line `unfolding everything` opens all definitions of the brine statement, with those of the check, so that the checker computes them.
use Rattle.plan_definition.proofs.Computed.{everything as check}
use Rattle.brine_definition.specs.Count.{sum, count}
use Rattle.brine_definition.specs.Page.{brought, intake_from, spare_of, row_of, row_when, rows, produced}
use Rattle.brine_definition.specs.Statement.{batch, page, intakes, spares, below_zero, statement_of, refused_by, brine_refusals, brine_outcome}

unfoldable pub everything : Unit {0}
unfolding check sum count brought intake_from spare_of row_of row_when rows produced batch page intakes spares below_zero statement_of refused_by brine_refusals brine_outcome
everything = tt
