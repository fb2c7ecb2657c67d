-- `columns_inject::mixed` meets its contract: a row for each block, and its last term the message's.
-- Assumes nothing.
use mathlib.Core.Path.{◌≡◌, sym, ap, ap₂, ◌∙◌}
use mathlib.Core.List.{List, [], ◌∷◌, ◌++◌, map}
use Prim.Native.Nat.{ℕ, ◌+◌, ◌<◌}
use native.Mathlib.Numerals.{add-one}
use native.Mathlib.Omega.{arith}
use lib.ListN.{length, get_or, set, take, length-set}
use lib.Seq.{take_all, take-suc-set}
use Rattle.std.proofs.lemmas.List.{map_more}
use Rattle.std.proofs.lemmas.Simd.{map-map}
use Rattle.columns_definition.specs.Columns.{row_sum}
use Rattle.columns_inject.specs.declared.Coefficient.{Coefficient}
use Rattle.columns_inject.specs.Coefficients.{numbers}
use Rattle.columns_inject.proofs.mixed.Goals as goal

-- one row more
more : (f : List Coefficient × Coefficient → ℕ) (rows : List (List Coefficient × Coefficient)) (sums : List ℕ) (j : ℕ) (row : List Coefficient × Coefficient) {x : ℕ}
    → j < length rows → length sums ≡ length rows → take j sums ≡ map f (take j rows) → row ≡ get_or rows j row → x ≡ f row
    → (length (set sums j x) ≡ length rows) × (take (j + 1) (set sums j x) ≡ map f (take (j + 1) rows))
more f rows sums j row {x} h e t at p =
    (length-set sums j x ∙ e, rw (add-one j) (take-suc-set sums j x (omega arith)) ∙ ap₂ (λ (l : List ℕ) (y : ℕ). l ++ y ∷ []) t (p ∙ ap f at) ∙ sym (map_more f rows j row h))

pub loop-j-preserved : goal.loop-j-preserved
loop-j-preserved g c =
    let a = c.args in
    let l = c.loop-j in
    more (λ row. row_sum (numbers row) (a.column.now ++ a.m ∷ [])) a.matrix.now l.sums l.j c.index-matrix-j.result (omega arith) l.invariant.0 l.invariant.1 c.index-matrix-j.is
    (c.sum.ensures ∙ rw (sym c.index-matrix-j.is))

pub returns : goal.returns
returns g c =
    let l = c.loop-j in
    sym (take_all l.j l.sums (omega arith)) ∙ l.invariant.1 ∙ rw (take_all l.j c.args.matrix.now (omega (arith, c.type_inv.matrix))) (sym (map-map _ numbers c.args.matrix.now))
