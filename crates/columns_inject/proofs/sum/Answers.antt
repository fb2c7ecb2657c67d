-- `columns_inject::sum` meets its contract.
-- Assumes nothing.
use mathlib.Core.Path.{◌≡◌, sym, ◌∙◌}
use mathlib.Core.List.{List, [], ◌∷◌, ◌++◌, map}
use mathlib.Core.Logic.{◌⊎◌, ⊎_elim}
use Prim.Native.Nat.{ℕ}
use lib.Bits.{bit_xor, xor_comm, xor_zero_r}
use lib.ListN.{length, length-map}
use Rattle.std.proofs.lemmas.Slice.Zip.{Zip-more, either_empty_from_Zip}
use Rattle.definition.specs.Field.{product}
use Rattle.definition.proofs.Xor.{word_assoc}
use Rattle.columns_definition.specs.Columns.{row_sum}
use Rattle.columns_inject.specs.declared.Coefficient.{Coefficient}
use Rattle.columns_inject.specs.Coefficients.{number}
use Rattle.columns_inject.proofs.Sums.{row-end}
use Rattle.columns_inject.proofs.sum.Goals as goal

-- the message's term is the first
first : (cs es : List ℕ) (c e : ℕ) → length es ≡ length cs → bit_xor (product c e) (row_sum cs es) ≡ row_sum (cs ++ c ∷ []) (es ++ e ∷ [])
first cs es c e h = xor_comm (product c e) (row_sum cs es) ∙ row-end cs es c e (sym h)

pub loop-c-init : goal.loop-c-init
loop-c-init g c =
    let a = c.args in
    let s = first (map number a.row.now) a.column.now (number a.last) a.m (c.requires ∙ sym (length-map a.row.now number ∙ c.told-row)) in
    cc

-- a product more
more : (a : ℕ) {cs ds : List Coefficient} {xs ys : List ℕ} {c : Coefficient} {x : ℕ} → cs ≡ c ∷ ds → xs ≡ x ∷ ys
    → bit_xor (bit_xor a (product (number c) x)) (row_sum (map number ds) ys) ≡ bit_xor a (row_sum (map number cs) xs)
unfolding row_sum
more a {c = c} {x = x} p q = rw (p, q) (word_assoc a (product (number c) x) _)

pub loop-c-preserved : goal.loop-c-preserved
loop-c-preserved g c =
    let l = c.loop-c in
    let z = Zip-more l.c-iterator c.next.new.self c.next.result (c.in-Some.c, c.in-Some.x) c.in-Some.is c.next.ensures.steps in
    rw c.times-sum-in-loop-c.ensures (more l.sum z.0 z.1 ∙ l.invariant)

-- and none is left
none : (a : ℕ) {cs : List Coefficient} {xs : List ℕ} → (cs ≡ []) ⊎ (xs ≡ []) → bit_xor a (row_sum (map number cs) xs) ≡ a
unfolding row_sum
none a {cs} {xs} e = ⊎_elim (λ (p : cs ≡ []). rw p (xor_zero_r a)) (λ (q : xs ≡ []). rw q (last cs)) e
  where
    last : (cs : List Coefficient) → bit_xor a (row_sum (map number cs) []) ≡ a
    last [] = xor_zero_r a
    last (c ∷ cs) = xor_zero_r a

pub returns : goal.returns
returns g c =
    let l = c.loop-c in
    sym (none l.sum (either_empty_from_Zip l.c-iterator c.next.new.self c.next.result c.in-None.is c.next.ensures.steps)) ∙ l.invariant
