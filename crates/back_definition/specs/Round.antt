-- The round function undone: section 3.2 of the source, read backwards (document 02, Q-9).
use Rattle.std.specs.Prelude.{ℕ, suc, List, [], ◌∷◌}
use Rattle.definition.specs.declared.Block.{Block}
use Rattle.definition.specs.declared.Width.{Width}
use Rattle.back_definition.specs.Step.{permute_back}
use Rattle.back_definition.specs.Injection.{inject_back}

-- 3.2: Q_j undone on the first block, Q_j+1 on the next, and so on
unfoldable pub permute_back_from : ℕ → List Block → List Block
permute_back_from j [] = []
permute_back_from j (x ∷ xs) = permute_back j x ∷ permute_back_from (suc j) xs

-- 3.2: H^(i-1) from H^(i) and M^(i)
unfoldable pub round_back : Width → List Block → Block → List Block
round_back w h m = inject_back w (permute_back_from 0 h) m
