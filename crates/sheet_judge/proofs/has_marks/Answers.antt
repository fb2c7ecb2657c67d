-- `sheet_judge::has_marks` meets its contract: a length divided is at most q where the length is below that of q + 1 marks.
-- Assumes nothing.
use Prim.Native.Nat.{◌/◌}
use Rattle.sheet_definition.specs.Sheet.{q}
use Rattle.sheet_definition.specs.Refusals.{marks_refusal}
use Rattle.sheet_judge.proofs.Tests.{at_most}
use Rattle.sheet_judge.proofs.has_marks.Goals as goal

pub returns : goal.returns
unfolding marks_refusal q
returns c = rw (at_most c.args.marks (c.args.n / 4)) at c.when.ensures
