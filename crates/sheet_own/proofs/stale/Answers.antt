-- `sheet_own::stale` meets its contract, case by case.
-- Assumes nothing.
use mathlib.Core.Path.{sym, ap}
use Rattle.sheet_definition.specs.Own.{stale_as}
use Rattle.sheet_own.proofs.stale.Goals as goal

pub returns-in-Same : goal.returns-in-Same
unfolding stale_as
returns-in-Same c = ap stale_as (sym c.in-Same.is)

pub returns-in-Group : goal.returns-in-Group
unfolding stale_as
returns-in-Group c = ap stale_as (sym c.in-Group.is)
