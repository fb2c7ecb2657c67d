-- SubCrumb, MixWord, AddConstant and the tweak undone, and so the step and Q_j: sections 4.1 to 4.5 of the source, read backwards (document 02,
-- Q-9, "S, MixWord, tweak, constants and injection are each undone").
use Rattle.std.specs.Prelude.{ℕ, ◌-◌, List, [], ◌∷◌, get_or}
use Rattle.std.specs.Int.Bits.{bit_xor}
use Rattle.definition.specs.declared.Block.{Block}
use Rattle.definition.specs.declared.Crumb.{Crumb}
use Rattle.definition.specs.declared.Pair.{Pair}
use Rattle.definition.specs.Word.{bit, from_bits, rotl}
use Rattle.definition.specs.SubCrumb.{sbox_input}
use Rattle.definition.specs.Constant.{constants}
use Rattle.definition.specs.Permutation.{tweak, on_halves, on_pairs, add_constant}

-- 4.2: the Sbox undone, the number whose S is n
unfoldable pub SBack : ℕ → ℕ
SBack n = get_or (2 ∷ 3 ∷ 14 ∷ 9 ∷ 15 ∷ 4 ∷ 7 ∷ 6 ∷ 13 ∷ 10 ∷ 5 ∷ 8 ∷ 11 ∷ 0 ∷ 1 ∷ 12 ∷ []) n 0

-- 4.2 with any table of sixteen entries in the place of S: 4.2's own SubCrumb is `crumb_by S`
unfoldable pub word_by : (table : ℕ → ℕ) → (k a0 a1 a2 a3 : ℕ) → ℕ
word_by table k a0 a1 a2 a3 = from_bits 32 (λ l. bit k (table (sbox_input a0 a1 a2 a3 l)))

unfoldable pub crumb_by : (table : ℕ → ℕ) → (a0 a1 a2 a3 : ℕ) → Crumb
crumb_by table a0 a1 a2 a3 =
    record {
      x0 = word_by table 0 a0 a1 a2 a3;
      x1 = word_by table 1 a0 a1 a2 a3;
      x2 = word_by table 2 a0 a1 a2 a3;
      x3 = word_by table 3 a0 a1 a2 a3;
    }

-- SubCrumb undone, at each bit
unfoldable pub sub_crumb_back : (x0 x1 x2 x3 : ℕ) → Crumb
sub_crumb_back = crumb_by SBack

-- 4.3: MixWord's equations from the last to the first; a rotation to the left by 32 - σ undoes one by σ
unfoldable pub mix_word_back : (left right : ℕ) → Pair
mix_word_back left right =
    let z4 : ℕ = rotl 31 right in
    let y0 : ℕ = rotl 22 (bit_xor left z4) in
    let y4 : ℕ = rotl 18 (bit_xor z4 y0) in
    let x0 : ℕ = rotl 30 (bit_xor y0 y4) in
    record { left = x0; right = bit_xor y4 x0 }

-- 4.1 and 4.2: on both halves of a block, and on its four pairs
unfoldable pub sub_crumbs_back : Block → Block
sub_crumbs_back = on_halves sub_crumb_back

unfoldable pub mix_words_back : Block → Block
mix_words_back = on_pairs mix_word_back

-- 4.1: the step undone; AddConstant undoes itself
unfoldable pub step_back : Pair → Block → Block
step_back c a = sub_crumbs_back (mix_words_back (add_constant c a))

-- the steps of some constants undone, the last first
unfoldable pub steps_back : List Pair → Block → Block
steps_back [] a = a
steps_back (c ∷ cs) a = step_back c (steps_back cs a)

-- 4.5: the tweak undone, words 4 to 7 rotated on until they have gone around
unfoldable pub tweak_back : ℕ → Block → Block
tweak_back j = tweak (32 - j)

-- 4.1: Q_j undone, the eight steps and then the tweak
unfoldable pub permute_back : ℕ → Block → Block
permute_back j b = tweak_back j (steps_back (constants j) b)
