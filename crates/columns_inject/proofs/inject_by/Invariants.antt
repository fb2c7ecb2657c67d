-- The invariant of `columns_inject::inject_by`.
use mathlib.Core.Path.{◌≡◌}
use mathlib.Core.List.{map}
use Prim.Native.Nat.{◌*◌}
use lib.ListN.{length}
use Rattle.columns_inject.specs.Coefficients.{numbers}
use Rattle.columns_inject.proofs.Injecting.{injected_to}
use Rattle.columns_inject.proofs.inject_by.Given as goal

-- the first l positions are injected
abbrev pub invariant-loop-l : goal.invariant-loop-l
invariant-loop-l g l = (length l.dump ≡ 32 * g.row.W) × (l.dump ≡ injected_to (map numbers l.matrix) g.row.W l.initial.dump l.message l.l)
