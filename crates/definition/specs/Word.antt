-- Words of 32 bits, their bits, and four bytes as a word: sections 2.1.2, 2.2 and 4.5 of the source.
-- A word is a number below 2^32; each definition gives a number at any number.
use Rattle.std.specs.Prelude.{ℕ, zero, suc, ◌+◌, ◌-◌, ◌*◌, ◌/◌, ◌%◌, ◌^◌, List, [], ◌∷◌, ◌++◌}
use Rattle.std.specs.Int.Bits.{bit_or}

-- 2.2: bit l of a word, where bit 0 is the least significant
unfoldable pub bit : ℕ → ℕ → ℕ
bit l a = a / 2 ^ l % 2

-- 2.2: the number whose bit l is f l for each l below n
unfoldable pub from_bits : ℕ → (ℕ → ℕ) → ℕ
from_bits zero f = 0
from_bits (suc n) f = f n * 2 ^ n + from_bits n f

-- 2.1.2: a <<< n, in a register of 32 bits; that bit l is bit l - n mod 32 of a, as 4.5 has it, is a law
unfoldable pub rotl : ℕ → ℕ → ℕ
rotl n a = bit_or (a * 2 ^ n % 2 ^ 32) (a / 2 ^ (32 - n))

-- 2.2: four bytes as a word, the first highest
unfoldable pub word_of : ℕ → ℕ → ℕ → ℕ → ℕ
word_of x0 x1 x2 x3 = x0 * 2 ^ 24 + x1 * 2 ^ 16 + x2 * 2 ^ 8 + x3

-- 2.2: the four bytes of a word, the highest first
unfoldable pub bytes_of : ℕ → List ℕ
bytes_of a = a / 2 ^ 24 % 256 ∷ a / 2 ^ 16 % 256 ∷ a / 2 ^ 8 % 256 ∷ a % 256 ∷ []

-- 2.2: the bytes of words that stand one after the other, as a_0 || a_1 || .. || a_7
unfoldable pub bytes_of_all : List ℕ → List ℕ
bytes_of_all [] = []
bytes_of_all (a ∷ ws) = bytes_of a ++ bytes_of_all ws
