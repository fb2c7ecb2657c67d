-- The invariant of `columns_inject::sum`.
use mathlib.Core.Path.{◌≡◌}
use mathlib.Core.List.{[], ◌∷◌, ◌++◌, map}
use lib.Bits.{bit_xor}
use Rattle.columns_definition.specs.Columns.{row_sum}
use Rattle.columns_inject.specs.Coefficients.{number}
use Rattle.columns_inject.proofs.sum.Given as goal

-- what is added and what is left are the sum of all
abbrev pub invariant-loop-c : goal.invariant-loop-c
invariant-loop-c g l =
    bit_xor l.sum (row_sum (map number l.c-iterator.a.rest.now) l.c-iterator.b.rest.now)
    ≡ row_sum (map number l.row ++ number l.fn.last ∷ []) (l.column ++ l.m ∷ [])
