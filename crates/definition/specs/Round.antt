-- The round function and the chaining: sections 2.3 and 3.2 of the source. A state is the list of its w blocks.
use Rattle.std.specs.Prelude.{ℕ, suc, List, [], ◌∷◌}
use Rattle.definition.specs.declared.Block.{Block}
use Rattle.definition.specs.declared.Width.{Width}
use Rattle.definition.specs.Injection.{inject}
use Rattle.definition.specs.Permutation.{permute}

-- 3.2: Q_j on the first block, Q_j+1 on the next, and so on
unfoldable pub permute_from : ℕ → List Block → List Block
permute_from j [] = []
permute_from j (x ∷ xs) = permute j x ∷ permute_from (suc j) xs

-- 3.2: H^(i) from H^(i-1) and M^(i)
unfoldable pub round : Width → List Block → Block → List Block
round w h m = permute_from 0 (inject w h m)

-- 2.3: a round for each message block in turn
unfoldable pub chain : Width → List Block → List Block → List Block
chain w h [] = h
chain w h (m ∷ ms) = chain w (round w h m) ms
