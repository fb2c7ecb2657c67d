-- MixWord: section 4.3 of the source.
use Rattle.std.specs.Prelude.{ℕ}
use Rattle.std.specs.Int.Bits.{bit_xor}
use Rattle.definition.specs.declared.Pair.{Pair}
use Rattle.definition.specs.Word.{rotl}

-- 4.3: y_k and y_k+4 from x_k and x_k+4, the equations one after the other, with σ = 2, 14, 10, 1
unfoldable pub mix_word : (x0 x4 : ℕ) → Pair
mix_word x0 x4 =
    let y4 : ℕ = bit_xor x4 x0 in
    let y0 : ℕ = bit_xor (rotl 2 x0) y4 in
    let z4 : ℕ = bit_xor (rotl 14 y4) y0 in
    let z0 : ℕ = bit_xor (rotl 10 y0) z4 in
    record { left = z0; right = rotl 1 z4 }
