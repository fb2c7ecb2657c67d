-- The message injection function MI by its matrices: section 3.2 of the source with 3.2.1 to 3.2.3.
use Rattle.std.specs.Prelude.{ℕ, List, [], ◌∷◌, ◌++◌, map}
use Rattle.definition.specs.declared.Block.{Block}
use Rattle.definition.specs.declared.Width.{Width}
use Rattle.definition.specs.declared.Width.TheVariants.{W3, W4, W5}
use Rattle.definition.specs.Block.{◌⊕◌, zero_block}
use Rattle.definition.specs.Field.{times}

-- 3.2.1, 3.2.2 and 3.2.3: the rows; the last column is the message block's
unfoldable pub matrix : Width → List (List ℕ)
matrix W3 =
    (3 ∷ 2 ∷ 2 ∷ 1 ∷ [])
    ∷ (2 ∷ 3 ∷ 2 ∷ 2 ∷ [])
    ∷ (2 ∷ 2 ∷ 3 ∷ 4 ∷ [])
    ∷ []
matrix W4 =
    (4 ∷ 6 ∷ 6 ∷ 7 ∷ 1 ∷ [])
    ∷ (7 ∷ 4 ∷ 6 ∷ 6 ∷ 2 ∷ [])
    ∷ (6 ∷ 7 ∷ 4 ∷ 6 ∷ 4 ∷ [])
    ∷ (6 ∷ 6 ∷ 7 ∷ 4 ∷ 8 ∷ [])
    ∷ []
matrix W5 =
    (0x0f ∷ 0x08 ∷ 0x0a ∷ 0x0a ∷ 0x08 ∷ 0x01 ∷ [])
    ∷ (0x08 ∷ 0x0f ∷ 0x08 ∷ 0x0a ∷ 0x0a ∷ 0x02 ∷ [])
    ∷ (0x0a ∷ 0x08 ∷ 0x0f ∷ 0x08 ∷ 0x0a ∷ 0x04 ∷ [])
    ∷ (0x0a ∷ 0x0a ∷ 0x08 ∷ 0x0f ∷ 0x08 ∷ 0x08 ∷ [])
    ∷ (0x08 ∷ 0x0a ∷ 0x0a ∷ 0x08 ∷ 0x0f ∷ 0x10 ∷ [])
    ∷ []

-- 3.2.1 to 3.2.3: a row times the column of blocks
unfoldable pub row : List ℕ → List Block → Block
row [] bs = zero_block
row (c ∷ cs) [] = zero_block
row (c ∷ cs) (b ∷ bs) = times c b ⊕ row cs bs

-- 3.2: MI, X_0 || .. || X_w-1 from H_0 .. H_w-1 and M
unfoldable pub inject : Width → List Block → Block → List Block
inject w h m = map (λ cs. row cs (h ++ (m ∷ []))) (matrix w)
