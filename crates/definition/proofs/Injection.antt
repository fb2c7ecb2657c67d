-- Appendix E's forms give the matrices of 3.2.1 to 3.2.3. A form of XORs and doublings is read as a coefficient for each block; that the
-- reading is right is proved once, over any form, and the checker compares the coefficients with the matrix at each w.
-- Assumes nothing.
use mathlib.Core.Path.{◌≡◌, refl, sym, ap, ap₂, ◌∙◌}
use mathlib.Core.Bool.{Bool, true, ◌&&◌}
use mathlib.Core.List.{List, [], ◌∷◌, ◌++◌, map}
use Prim.Native.Nat.{ℕ, zero, suc, ◌*◌, ◌^◌, ◌<◌}
use native.Mathlib.Numerals.{add-one}
use native.Mathlib.Omega.{arith}
use lib.Bits.{bit_xor}
use lib.Dec.{T, ltb, ltb→lt}
use lib.ListN.{get_or, length, length-append}
use Rattle.definition.specs.declared.Block.{Block}
use Rattle.definition.specs.declared.Width.{Width}
use Rattle.definition.specs.declared.Width.TheVariants.{W3, W4, W5}
use Rattle.definition.specs.Block.{◌⊕◌, zero_block}
use Rattle.definition.specs.Field.{double, times}
use Rattle.definition.specs.Injection.{matrix, row, inject}
use Rattle.definition.specs.Width.{block_count}
use Rattle.definition.specs.AppendixE.{Form, block, ◌⊞◌, twice, power, xor_to, η, ξ, without_message, forms, value, appendix_e}
use Rattle.definition.proofs.Conditions.{both_left, both_right}
use Rattle.definition.specs.Buffer.{Every}
use Rattle.definition.proofs.Field.{times_zero, times_one, times-xor, times-twice}
use Rattle.definition.proofs.Xor.{⊕-swap, ⊕-zero, zero-⊕, double-⊕}

-- each coefficient of the matrices is an element of the field
pub matrix_elements : (w : Width) → Every (Every (λ c. c < 2 ^ 8)) (matrix w)
unfolding matrix
matrix_elements W3 = omega arith
matrix_elements W4 = omega arith
matrix_elements W5 = (omega arith, (omega arith, (omega arith, (omega arith, (omega arith, tt)))))

-- the coefficient of block k in a form
unit : (i k : ℕ) → ℕ
unit zero zero = 1
unit zero (suc k) = 0
unit (suc i) zero = 0
unit (suc i) (suc k) = unit i k

coefficient : Form → ℕ → ℕ
coefficient (block i) k = unit i k
coefficient (e ⊞ f) k = bit_xor (coefficient e k) (coefficient f k)
coefficient (twice e) k = coefficient e k * 2

-- the first n values of f
table : (n : ℕ) → (ℕ → ℕ) → List ℕ
table zero f = []
table (suc n) f = f 0 ∷ table n (λ k. f (suc k))

small : List ℕ → Bool
small [] = true
small (c ∷ cs) = ltb c (2 ^ 7) && small cs

-- no coefficient of n blocks reaches x^8 where it is doubled
in_field : ℕ → Form → Bool
in_field n (block i) = true
in_field n (e ⊞ f) = in_field n e && in_field n f
in_field n (twice e) = in_field n e && small (table n (coefficient e))

-- a row of coefficients times the blocks
row_of : (ℕ → ℕ) → List Block → Block
row_of f bs = row (table (length bs) f) bs

row_of-zero : (bs : List Block) → row_of (λ k. 0) bs ≡ zero_block
unfolding row_of row table
row_of-zero [] = refl
row_of-zero (b ∷ bs) = ap₂ ◌⊕◌ (times_zero b) (row_of-zero bs) ∙ zero-⊕ zero_block

row_of-unit : (i : ℕ) (bs : List Block) → row_of (unit i) bs ≡ get_or bs i zero_block
unfolding row_of row table unit
row_of-unit i [] = refl
row_of-unit zero (b ∷ bs) = ap₂ ◌⊕◌ (times_one b) (row_of-zero bs) ∙ ⊕-zero b
row_of-unit (suc i) (b ∷ bs) = ap₂ ◌⊕◌ (times_zero b) (row_of-unit i bs) ∙ zero-⊕ (get_or bs i zero_block)

row_of-xor : (f g : ℕ → ℕ) (bs : List Block) → row_of (λ k. bit_xor (f k) (g k)) bs ≡ row_of f bs ⊕ row_of g bs
unfolding row_of row table
row_of-xor f g [] = sym (zero-⊕ zero_block)
row_of-xor f g (b ∷ bs) =
    rw (times-xor (f 0) (g 0) b, row_of-xor (λ k. f (suc k)) (λ k. g (suc k)) bs) (⊕-swap (times (f 0) b) (times (g 0) b) _ _)

row_of-twice : (f : ℕ → ℕ) (bs : List Block) → T (small (table (length bs) f)) → row_of (λ k. f k * 2) bs ≡ double (row_of f bs)
unfolding row_of row table small double
row_of-twice f [] t = refl
row_of-twice f (b ∷ bs) t =
    ap₂ ◌⊕◌ (times-twice (f 0) b (ltb→lt _ _ (both_left (ltb (f 0) (2 ^ 7)) _ t)))
    (row_of-twice (λ k. f (suc k)) bs (both_right (ltb (f 0) (2 ^ 7)) _ t))
    ∙ sym (double-⊕ (times (f 0) b) (row_of (λ k. f (suc k)) bs))

-- a form's value is its coefficients times the blocks
reading : (e : Form) (bs : List Block) → T (in_field (length bs) e) → value bs e ≡ row_of (coefficient e) bs
unfolding value coefficient in_field
reading (block i) bs t = sym (row_of-unit i bs)
reading (e ⊞ f) bs t =
    ap₂ ◌⊕◌ (reading e bs (both_left (in_field (length bs) e) _ t)) (reading f bs (both_right (in_field (length bs) e) _ t))
    ∙ sym (row_of-xor (coefficient e) (coefficient f) bs)
reading (twice e) bs t =
    ap double (reading e bs (both_left (in_field (length bs) e) _ t))
    ∙ sym (row_of-twice (coefficient e) bs (both_right (in_field (length bs) e) _ t))

all_in_field : ℕ → List Form → Bool
all_in_field n [] = true
all_in_field n (e ∷ es) = in_field n e && all_in_field n es

readings : (es : List Form) (bs : List Block) → T (all_in_field (length bs) es)
    → map (value bs) es ≡ map (λ cs. row cs bs) (map (λ e. table (length bs) (coefficient e)) es)
unfolding all_in_field row_of
readings [] bs t = refl
readings (e ∷ es) bs t =
    rw (reading e bs (both_left (in_field (length bs) e) _ t), readings es bs (both_right (in_field (length bs) e) _ t))

-- what the checker computes at each w: the coefficients of Appendix E's forms are the matrix, and none reaches x^8
compared : (w : Width) → map (λ e. table (suc (block_count w)) (coefficient e)) (forms w) ≡ matrix w
unfolding table coefficient unit forms without_message ξ η xor_to power matrix block_count
compared W3 = refl
compared W4 = refl
compared W5 = refl

tested : (w : Width) → T (all_in_field (suc (block_count w)) (forms w))
unfolding all_in_field in_field small table coefficient unit forms without_message ξ η xor_to power block_count
tested W3 = tt
tested W4 = tt
tested W5 = tt

-- Appendix E's forms equal the matrices, for all blocks, at each w
pub forms-inject : (w : Width) (h : List Block) (m : Block) → length h ≡ block_count w → appendix_e w h m ≡ inject w h m
unfolding appendix_e inject
forms-inject w h m e =
    let n : length (h ++ (m ∷ [])) ≡ suc (block_count w) = length-append h (m ∷ []) ∙ add-one (length h) ∙ ap suc e in
    readings (forms w) (h ++ (m ∷ [])) (rw n (tested w)) ∙ rw (n, compared w)
