-- The message injection undone: Appendix E of the source, its equations solved from the last to the first (document 02, Q-9). The laws by which these
-- equations are undone are over any number of blocks; which equations a w has is the source's, and the constants are what undoes their factors.
use Rattle.std.specs.Prelude.{ℕ, List, [], ◌∷◌, map, reverse, get_or}
use Rattle.definition.specs.declared.Block.{Block}
use Rattle.definition.specs.declared.Width.{Width}
use Rattle.definition.specs.declared.Width.TheVariants.{W3, W4, W5}
use Rattle.definition.specs.Block.{◌⊕◌, zero_block}
use Rattle.definition.specs.Field.{double, times}

-- E-1 to E-3: 2^j M taken from each X_j
unfoldable pub less_message : List Block → Block → List Block
less_message [] m = []
less_message (x ∷ xs) m = (x ⊕ m) ∷ less_message xs (double m)

-- E-2, E-3: of n blocks y_j = 2 η_j ^ η_j-1 around a ring, y_0 ^ 2 y_1 ^ .. ^ 2^(n-1) y_n-1, in which (2^n ^ 1) η_n-1 is left
unfoldable pub ring_sum : List Block → Block
ring_sum [] = zero_block
ring_sum (y ∷ ys) = y ⊕ double (ring_sum ys)

-- η_0 to η_n-1 from the last of them and y_1 to y_n-1: η_j-1 = y_j ^ 2 η_j
unfoldable pub from_last : (last : Block) → List Block → List Block
from_last last [] = last ∷ []
from_last last (y ∷ ys) =
    let es : List Block = from_last last ys in
    (y ⊕ double (get_or es 0 zero_block)) ∷ es

-- the ring undone, where 1 / (2^n ^ 1) in the field is the constant
unfoldable pub unring : (inverse : ℕ) → List Block → List Block
unring inverse [] = []
unring inverse (y ∷ ys) = from_last (times inverse (ring_sum (y ∷ ys))) ys

-- E-1 to E-3: H_0 ^ H_1 ^ .. from a first block on
unfoldable pub sum_on : Block → List Block → Block
sum_on a [] = a
sum_on a (b ∷ bs) = sum_on (a ⊕ b) bs

unfoldable pub total : List Block → Block
total [] = zero_block
total (b ∷ bs) = sum_on b bs

-- E-1 to E-3: η_j = H_j ^ 2 (H_0 ^ .. ^ H_w-1) undone. The sum of all η_j is 3 (H_0 ^ .. ^ H_w-1) where w is odd, and H_0 ^ .. ^ H_w-1 itself
-- where it is even; the inverse of that factor, 3 or 1, is the constant
unfoldable pub unspread : (inverse : ℕ) → List Block → List Block
unspread inverse es =
    let t : Block = double (times inverse (total es)) in
    map (λ e. e ⊕ t) es

-- in the field of 3.2, 1 / 3, 1 / (2^4 ^ 1) and 1 / (2^5 ^ 1)
abbrev pub third : ℕ
third = 0xf6

abbrev pub ring4 : ℕ
ring4 = 0xb4

abbrev pub ring5 : ℕ
ring5 = 0x6e

-- E-1 to E-3: X_j to H_j. E-3's ξ_j = 2 η_j ^ η_j+1 is a ring in the other direction
unfoldable pub equations_back : Width → List Block → List Block
equations_back W3 x = unspread third x
equations_back W4 x = unspread 1 (unring ring4 x)
equations_back W5 x = unspread third (reverse (unring ring5 (reverse (unring ring5 x))))

-- MI undone for a message block: H_0 .. H_w-1 from X_0 .. X_w-1
unfoldable pub inject_back : Width → List Block → Block → List Block
inject_back w x m = equations_back w (less_message x m)
