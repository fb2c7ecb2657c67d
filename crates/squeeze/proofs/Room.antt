-- The final stage in a buffer that has room for its words, four bytes each.
-- Assumes nothing.
use mathlib.Core.Path.{◌≡◌}
use mathlib.Core.List.{List}
use Prim.Native.Nat.{ℕ, ◌*◌, ◌/◌, ◌≤◌, min}
use native.Mathlib.Omega.{arith}
use lib.ListN.{length}
use Rattle.definition.specs.declared.Block.{Block}
use Rattle.definition.specs.declared.Counted.{Counted}
use Rattle.definition.specs.declared.Width.{Width}
use Rattle.definition.specs.Round.{chain}
use Rattle.definition.specs.State.{blocks_in}
use Rattle.definition.specs.Final.{final}
use Rattle.definition.specs.Counted.{counted_chain}
use Rattle.definition.proofs.Chain.{counted-blocks}

-- all words are put out
pub all_words : (words : ℕ) (out : List ℕ) → 4 * words ≤ length out → min words (length out / 4) ≡ words
all_words words out h = omega arith

-- and are the definition's, after the rounds that were run before them
pub squeezed-out : (w : Width) (words : ℕ) (c : Counted) (ms : List Block) (out : List ℕ) → 4 * words ≤ length out
    → final w (min words (length out / 4)) (blocks_in w (counted_chain w c ms).state) ≡ final w words (chain w (blocks_in w c.state) ms)
squeezed-out w words c ms out h = rw (all_words words out h, counted-blocks)
