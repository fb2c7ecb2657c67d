-- A row of a matrix times a column, with a last term more.
-- Assumes nothing.
use mathlib.Core.Path.{◌≡◌, sym, ap, ◌∙◌}
use mathlib.Core.List.{List, [], ◌∷◌, ◌++◌}
use Prim.Native.Nat.{ℕ}
use native.Mathlib.Omega.{arith}
use lib.Bits.{bit_xor, xor_zero_r}
use lib.ListN.{length}
use Rattle.definition.specs.Field.{product}
use Rattle.definition.proofs.Xor.{word_assoc}
use Rattle.columns_definition.specs.Columns.{row_sum}

-- the message's term
pub row-end : (cs es : List ℕ) (c e : ℕ) → length cs ≡ length es → bit_xor (row_sum cs es) (product c e) ≡ row_sum (cs ++ c ∷ []) (es ++ e ∷ [])
unfolding row_sum
row-end [] [] c e h = sym (xor_zero_r (product c e))
row-end [] (f ∷ es) c e h = absurd (omega arith)
row-end (d ∷ cs) [] c e h = absurd (omega arith)
row-end (d ∷ cs) (f ∷ es) c e h =
    word_assoc (product d f) (row_sum cs es) (product c e) ∙ ap (bit_xor (product d f)) (row-end cs es c e (omega arith))
