-- Four bytes and a word are each other's reading; and the bytes of a list of words.
-- Assumes nothing.
use mathlib.Core.Path.{◌≡◌, refl, sym, ap, ◌∙◌}
use mathlib.Core.List.{List, [], ◌∷◌, ◌++◌, append_assoc, append-nil}
use Prim.Native.Nat.{ℕ, ◌+◌, ◌*◌, ◌/◌, ◌%◌, ◌^◌, ◌<◌, ◌≤◌}
use native.Mathlib.Nat.{div-add-mod', mod-eq_of_lt}
use native.Mathlib.Omega.{arith}
use lib.ListN.{length, take, drop, take-append-drop}
use lib.Pow.{shr-shr, shr_lt}
use lib.Seq.{take_at, length-take-le}
use Rattle.definition.specs.Word.{word_of, bytes_of, bytes_of_all}

list4 : {a b c d a' b' c' d' : ℕ} → a ≡ a' → b ≡ b' → c ≡ c' → d ≡ d'
    → a ∷ b ∷ c ∷ d ∷ [] ≡ a' ∷ b' ∷ c' ∷ d' ∷ []
list4 p q r s = λ i. p i ∷ q i ∷ r i ∷ s i ∷ []

pub bytes_of_word : (x0 x1 x2 x3 : ℕ) → x0 < 256 → x1 < 256 → x2 < 256 → x3 < 256
    → bytes_of (word_of x0 x1 x2 x3) ≡ x0 ∷ x1 ∷ x2 ∷ x3 ∷ []
unfolding word_of bytes_of
bytes_of_word x0 x1 x2 x3 h0 h1 h2 h3 = list4 (omega arith) (omega arith) (omega arith) (omega arith)

-- a number from its digits at base 256, the highest without a remainder
rebuilt : (a b c d : ℕ) → a / 256 ≡ b → b / 256 ≡ c → c / 256 ≡ d → d * 2 ^ 24 + c % 256 * 2 ^ 16 + b % 256 * 2 ^ 8 + a % 256 ≡ a
rebuilt a b c d p q r = omega (arith, div-add-mod' a 256, div-add-mod' b 256, div-add-mod' c 256)

pub word_of_bytes : (a : ℕ) → a < 2 ^ 32 → word_of (a / 2 ^ 24 % 256) (a / 2 ^ 16 % 256) (a / 2 ^ 8 % 256) (a % 256) ≡ a
unfolding word_of
word_of_bytes a h =
    rw (mod-eq_of_lt (shr_lt {n = a} 8 24 h))
    (rebuilt a (a / 2 ^ 8) (a / 2 ^ 16) (a / 2 ^ 24) refl (shr-shr a 8 8) (shr-shr a 16 8))

-- the bytes of a list of words
pub length-bytes : (ws : List ℕ) → length (bytes_of_all ws) ≡ 4 * length ws
unfolding bytes_of_all bytes_of
length-bytes [] = refl
length-bytes (a ∷ ws) = omega (arith, length-bytes ws)

pub bytes-append : (vs ws : List ℕ) → bytes_of_all (vs ++ ws) ≡ bytes_of_all vs ++ bytes_of_all ws
unfolding bytes_of_all
bytes-append [] ws = refl
bytes-append (a ∷ vs) ws = rw (bytes-append vs ws, append_assoc (bytes_of a) (bytes_of_all vs) (bytes_of_all ws))

-- and of one word more
pub bytes_snoc : (ws : List ℕ) (a : ℕ) → bytes_of_all (ws ++ a ∷ []) ≡ bytes_of_all ws ++ bytes_of a
unfolding bytes_of_all
bytes_snoc ws a = rw (bytes-append ws (a ∷ []), append-nil (bytes_of a))

-- and of the first words
pub bytes_take : (n : ℕ) (ws : List ℕ) → n ≤ length ws → take (4 * n) (bytes_of_all ws) ≡ bytes_of_all (take n ws)
bytes_take n ws h =
    ap (λ (x : List ℕ). take (4 * n) (bytes_of_all x)) (sym (take-append-drop n ws))
    ∙ ap (take (4 * n)) (bytes-append (take n ws) (drop n ws))
    ∙ take_at (bytes_of_all (take n ws)) _ (4 * n) (omega (arith, length-bytes (take n ws), length-take-le n ws h))
