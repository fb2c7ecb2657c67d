-- The invariants of `sheet_own::compare`.
use mathlib.Core.Path.{◌≡◌}
use Prim.Native.Nat.{◌-◌}
use Rattle.sheet_definition.specs.Own.{compared}
use Rattle.sheet_own.proofs.Marks.{before}
use Rattle.sheet_own.proofs.compare.Given as goal

abbrev pub invariant-loop-g : goal.invariant-loop-g
invariant-loop-g l = before l.g (compared l.code l.held l.own (l.last - l.g) l.g) ≡ compared l.code l.held l.own l.last 0
