-- The invariants of `plan_rules::shares_break`.
use mathlib.Core.Path.{◌≡◌}
use Prim.Native.Nat.{◌+◌, ◌≤◌}
use lib.ListN.{drop}
use Rattle.plan_definition.specs.Some.{some}
use Rattle.plan_definition.specs.Rules.{no_share, total}
use Rattle.plan_rules.proofs.shares_break.Given as goal

-- what is left of 1000 once the shares before have taken theirs; whether a share isn't one is decided by those from here on
abbrev pub invariant-loop-l : goal.invariant-loop-l
invariant-loop-l l =
    (l.left ≤ 1000) × (total l.used + l.left ≡ 1000 + total (drop l.l-index l.used)) × (some no_share l.used ≡ some no_share (drop l.l-index l.used))
