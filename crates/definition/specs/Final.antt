-- The finalization over a number of words: sections 3.3 and 5 of the source. The digests are uses of it.
use Rattle.std.specs.Prelude.{ℕ, zero, suc, ◌+◌, ◌/◌, List, [], ◌++◌, take}
use Rattle.definition.specs.declared.Block.{Block}
use Rattle.definition.specs.declared.Width.{Width}
use Rattle.definition.specs.Block.{zero_block, xor_all, words_of}
use Rattle.definition.specs.Round.{round}

-- 3.3: Z_0, Z_1, .. from n blank rounds; each Z is read after its round
unfoldable pub outputs : Width → ℕ → List Block → List ℕ
outputs w zero h = []
outputs w (suc n) h =
    let h' : List Block = round w h zero_block in
    words_of (xor_all h') ++ outputs w n h'

-- 3.3: the blank rounds that give a number of words, eight words to a round, rounded up
unfoldable pub final_rounds : ℕ → ℕ
final_rounds words = (words + 7) / 8

-- 3.3 and 5: the first words of Z_0 || Z_1 || ..
unfoldable pub final : Width → (words : ℕ) → List Block → List ℕ
final w words h = take words (outputs w (final_rounds words) h)
