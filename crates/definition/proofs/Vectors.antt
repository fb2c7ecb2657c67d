-- The source's four digests of `abc`, Appendix C, as the checker computes them from `luffa` as it stands. The words are those printed.
use Prim.Native.Nat.{ℕ}
use mathlib.Core.Path.{◌≡◌}
use mathlib.Core.List.{List, [], ◌∷◌}
use Rattle.definition.specs.Word.{bytes_of_all}
use Rattle.definition.specs.Luffa.{luffa}
use Rattle.definition.proofs.Cases.{same→eq}
use Rattle.definition.proofs.Computed.{everything}

abbrev pub abc : List ℕ
abc = 0x61 ∷ 0x62 ∷ 0x63 ∷ []

-- C-1
pub luffa_224 : luffa 1 abc
    ≡ bytes_of_all (0xf29311b8 ∷ 0x7e9e40de ∷ 0x7699be23 ∷ 0xfbeb5a47 ∷ 0xcb16ea4f ∷ 0x5556d47c ∷ 0xa40c12ad ∷ [])
unfolding everything
luffa_224 = same→eq (luffa 1 abc) _ tt

-- C-2
pub luffa_256 : luffa 2 abc
    ≡ bytes_of_all (0xf29311b8 ∷ 0x7e9e40de ∷ 0x7699be23 ∷ 0xfbeb5a47 ∷ 0xcb16ea4f ∷ 0x5556d47c ∷ 0xa40c12ad ∷ 0x764a73bd ∷ [])
unfolding everything
luffa_256 = same→eq (luffa 2 abc) _ tt

-- C-3
pub luffa_384 : luffa 3 abc
    ≡ bytes_of_all
    (0x9a7abb79 ∷ 0x7a840e2d ∷ 0x423c34c9 ∷ 0x1f559f68 ∷ 0x09bdb291 ∷ 0x6fb2e9ef ∷ 0xfec2fa0a ∷ 0x7a69881b
    ∷ 0xe9872480 ∷ 0xc635d20d ∷ 0x2fd6e95d ∷ 0x046601a7 ∷ [])
unfolding everything
luffa_384 = same→eq (luffa 3 abc) _ tt

-- C-4
pub luffa_512 : luffa 4 abc
    ≡ bytes_of_all
    (0xf4024597 ∷ 0x3e80d79d ∷ 0x0f4b9b20 ∷ 0x2ddd4505 ∷ 0xb81b8830 ∷ 0x501bea31 ∷ 0x612b5817 ∷ 0xaae38792
    ∷ 0x1dcefd80 ∷ 0x8ca2c780 ∷ 0x20aff593 ∷ 0x45d6f91f ∷ 0x0ee6b2ee ∷ 0xe113f0cb ∷ 0xcf22b643 ∷ 0x81387e8a ∷ [])
unfolding everything
luffa_512 = same→eq (luffa 4 abc) _ tt
