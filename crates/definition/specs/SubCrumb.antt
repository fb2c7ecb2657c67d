-- SubCrumb by its table S, at each bit position: section 4.2 of the source.
use Rattle.std.specs.Prelude.{ℕ, ◌+◌, ◌*◌, [], ◌∷◌, get_or}
use Rattle.definition.specs.declared.Crumb.{Crumb}
use Rattle.definition.specs.Word.{bit, from_bits}

-- 4.2: the Sbox
unfoldable pub S : ℕ → ℕ
S n = get_or (13 ∷ 14 ∷ 0 ∷ 1 ∷ 5 ∷ 10 ∷ 7 ∷ 6 ∷ 11 ∷ 3 ∷ 9 ∷ 12 ∷ 15 ∷ 8 ∷ 2 ∷ 4 ∷ []) n 0

-- 4.2: the number a_3,l || a_2,l || a_1,l || a_0,l
unfoldable pub sbox_input : (a0 a1 a2 a3 l : ℕ) → ℕ
sbox_input a0 a1 a2 a3 l = bit l a3 * 8 + bit l a2 * 4 + bit l a1 * 2 + bit l a0

-- 4.2: x_k, the word whose bit l is bit k of S at that number
unfoldable pub sub_word : (k a0 a1 a2 a3 : ℕ) → ℕ
sub_word k a0 a1 a2 a3 = from_bits 32 (λ l. bit k (S (sbox_input a0 a1 a2 a3 l)))

-- 4.2: x_3,l || x_2,l || x_1,l || x_0,l = S[a_3,l || a_2,l || a_1,l || a_0,l] for each l below 32
unfoldable pub sub_crumb : (a0 a1 a2 a3 : ℕ) → Crumb
sub_crumb a0 a1 a2 a3 =
    record {
      x0 = sub_word 0 a0 a1 a2 a3;
      x1 = sub_word 1 a0 a1 a2 a3;
      x2 = sub_word 2 a0 a1 a2 a3;
      x3 = sub_word 3 a0 a1 a2 a3;
    }
