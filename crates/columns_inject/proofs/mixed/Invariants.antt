-- The invariant of `columns_inject::mixed`.
use mathlib.Core.Path.{◌≡◌}
use mathlib.Core.List.{[], ◌∷◌, ◌++◌, map}
use lib.ListN.{length, take}
use Rattle.columns_definition.specs.Columns.{row_sum}
use Rattle.columns_inject.specs.Coefficients.{numbers}
use Rattle.columns_inject.proofs.mixed.Given as goal

-- the first j rows are done
abbrev pub invariant-loop-j : goal.invariant-loop-j
invariant-loop-j g l =
    (length l.sums ≡ length l.matrix) × (take l.j l.sums ≡ map (λ row. row_sum (numbers row) (l.column ++ l.m ∷ [])) (take l.j l.matrix))
