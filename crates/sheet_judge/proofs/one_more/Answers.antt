-- `sheet_judge::one_more` meets its contract: lengths divided, and the groups of a record more.
-- Assumes nothing.
use Prim.Native.Nat.{◌+◌, ◌/◌}
use Rattle.sheet_definition.specs.Sheet.{q}
use Rattle.sheet_definition.specs.Refusals.{full_refusal}
use Rattle.sheet_judge.proofs.Tests.{at_most, one_more}
use Rattle.sheet_judge.proofs.one_more.Goals as goal

pub returns : goal.returns
unfolding full_refusal q
returns c =
    let a = c.args in
    rw (at_most a.sheet a.n, one_more a.n, at_most a.marks ((a.n + 1) / 4)) at c.when.ensures
