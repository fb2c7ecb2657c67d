-- The width of the registers: Table 2 of the source, under document 01's codes 1 = 224 bits, 2 = 256, 3 = 384, 4 = 512.
-- The table has an entry first that stands for no code. The enum itself stands in src/, so that code and definitions share it.
use Rattle.std.specs.Prelude.{ℕ, [], ◌∷◌, get_or}
use Rattle.definition.specs.declared.Width.{Width}
use Rattle.definition.specs.declared.Width.TheVariants.{W3, W4, W5}

-- Table 2: w at a code
unfoldable pub width_at : ℕ → Width
width_at code = get_or (W3 ∷ W3 ∷ W3 ∷ W4 ∷ W5 ∷ []) code W3

-- Table 2: the number of permutations w, which is that of a state's blocks
unfoldable pub block_count : Width → ℕ
block_count W3 = 3
block_count W4 = 4
block_count W5 = 5
