-- f_L of section 4.4 of the source undone. That it undoes f_L, on numbers of 64 bits, is a law.
use Rattle.std.specs.Prelude.{ℕ, ◌+◌, ◌*◌, ◌/◌, ◌%◌, ◌^◌, bit_xor}
use Rattle.definition.specs.Constant.{g}

-- 4.4: g is odd, so the lowest bit of f_L's number says whether x^64 appeared and g was taken away
unfoldable pub f_l_back : ℕ → ℕ
f_l_back t = t % 2 * 2 ^ 63 + bit_xor t (t % 2 * g) / 2
