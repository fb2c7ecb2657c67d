-- `plan_record::four` meets its contract: a number of four bytes is one of two numbers of two.
-- Assumes nothing.
use mathlib.Core.Path.{◌≡◌, ◌∙◌}
use Prim.Native.Nat.{◌+◌}
use native.Mathlib.Omega.{arith}
use Rattle.plan_definition.specs.Well.{two, four}
use Rattle.plan_record.proofs.four.Goals as goal

pub returns : goal.returns
unfolding two four
returns c =
    let e : c.args.i + 2 + 1 ≡ c.args.i + 3 = omega arith in
    c.from_be_bytes.ensures ∙ rw e (omega arith)
