-- `sheet_judge::has_records` meets its contract: a length divided is below n where the length is below n times as much.
-- Assumes nothing.
use native.Mathlib.Omega.{arith}
use Rattle.sheet_definition.specs.Refusals.{sheet_refusal}
use Rattle.definition.proofs.Conditions.{divided}
use Rattle.sheet_judge.proofs.has_records.Goals as goal

pub returns : goal.returns
unfolding sheet_refusal
returns c = rw (divided 40 c.args.sheet c.args.n (omega arith)) at c.when.ensures
