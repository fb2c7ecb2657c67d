-- The rule of the product tables: each of the 2,560 entries is the product of its coefficient and its argument, the remainder of the product of two
-- polynomials modulo φ; and each coefficient of the matrices has its table.
-- Assumes nothing.
use mathlib.Core.Path.{◌≡◌, refl, ap, ◌∙◌}
use mathlib.Core.Bool.{Bool, true, false, ◌&&◌, ◌||◌}
use mathlib.Core.List.{List, [], ◌∷◌, ◌++◌, map}
use Prim.Native.Nat.{ℕ, zero, suc, ◌^◌, ◌<◌}
use native.Mathlib.Nat.{not-suc-le-zero, le_of_suc-le-suc}
use lib.Dec.{T, eqb, eqb→eq}
use lib.ListN.{length, get_or}
use Rattle.definition.specs.declared.Width.{Width}
use Rattle.definition.specs.declared.Width.TheVariants.{W3, W4, W5}
use Rattle.definition.specs.Buffer.{joined}
use Rattle.definition.specs.Injection.{matrix}
use Rattle.definition.specs.Word.{bit}
use Rattle.definition.specs.Field.{times_x, multiple, product, carryless, remainder}
use Rattle.definition.proofs.Cases.{at_below}
use Rattle.definition.proofs.Field.{product-remainder}
use Rattle.columns_definition.specs.Products.{coefficients, products_of, products}
use Rattle.columns_definition.proofs.Rows.{get_or-up_to}

-- the table of a coefficient at an element
pub entry : (c e : ℕ) → e < 2 ^ 8 → get_or (products_of c) e 0 ≡ product c e
unfolding products_of
entry c e h = get_or-up_to 256 e (product c) 0 h

-- the table of coefficient i of a list
table_at : (cs : List ℕ) (i : ℕ) → i < length cs → get_or (map products_of cs) i [] ≡ products_of (get_or cs i 0)
table_at [] i h = absurd (not-suc-le-zero h)
table_at (c ∷ cs) zero h = refl
table_at (c ∷ cs) (suc i) h = table_at cs i (le_of_suc-le-suc h)

-- "whose rule (product modulo the field polynomial) is proved once over all entries"
pub products-rule : (i e : ℕ) → i < 10 → e < 2 ^ 8 → get_or (get_or products i []) e 0 ≡ remainder 7 (carryless (get_or coefficients i 0) e)
unfolding products coefficients
products-rule i e h k =
    let c : ℕ = get_or coefficients i 0 in
    ap (λ (t : List ℕ). get_or t e 0) (table_at coefficients i h) ∙ entry c e k ∙ product-remainder c e k

-- a list has a number
unfoldable pub has : List ℕ → ℕ → Bool
has [] c = false
has (k ∷ ks) c = eqb k c || has ks c

unfoldable pub has_all : List ℕ → List ℕ → Bool
has_all ks [] = true
has_all ks (c ∷ cs) = has ks c && has_all ks cs

-- each coefficient of the matrices is one of the ten, and each of the ten is one of theirs
pub matrices_coefficients : (w : Width) → T (has_all coefficients (joined (matrix w)))
unfolding matrix coefficients has has_all joined
matrices_coefficients W3 = tt
matrices_coefficients W4 = tt
matrices_coefficients W5 = tt

pub coefficients_matrices : T (has_all (joined (matrix W3) ++ joined (matrix W4) ++ joined (matrix W5)) coefficients)
unfolding matrix coefficients has has_all joined
coefficients_matrices = tt

-- 01 times an element needs no table
pub one_times : (e : ℕ) → e < 2 ^ 8 → product 1 e ≡ e
unfolding product multiple times_x bit
one_times e h = eqb→eq _ _ (at_below 256 (λ e. eqb (product 1 e) e) tt e h)
