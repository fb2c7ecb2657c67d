-- Blocks as elements of the ring GF(2^8)^32: section 3.2 of the source. Bit l of the eight words is one element of the field modulo
-- φ(x) = x^8 + x^4 + x^3 + x + 1, with a7 as the coefficient of x^7. A polynomial is the number whose bits are its coefficients.
use Rattle.std.specs.Prelude.{ℕ, zero, suc, ◌+◌, ◌*◌, ◌/◌, ◌%◌, ◌^◌, get_or}
use Rattle.std.specs.Int.Bits.{bit_xor}
use Rattle.definition.specs.declared.Block.{Block}
use Rattle.definition.specs.Word.{bit, from_bits}
use Rattle.definition.specs.Block.{◌⊕◌, zero_block, words_of}

-- 3.2, pseudo code: multiplication by 0x02, that is by x
unfoldable pub double : Block → Block
double a =
    record {
      a0 = a.a7;
      a1 = bit_xor a.a0 a.a7;
      a2 = a.a1;
      a3 = bit_xor a.a2 a.a7;
      a4 = bit_xor a.a3 a.a7;
      a5 = a.a4;
      a6 = a.a5;
      a7 = a.a6;
    }

-- 3.2: the block times a coefficient 1 or 0, the block or zero
unfoldable pub keep : ℕ → Block → Block
keep zero b = zero_block
keep (suc c) b = b

-- 3.2: the block times the polynomial of degree below n whose coefficients are the bits of c
unfoldable pub times_to : ℕ → ℕ → Block → Block
times_to zero c b = zero_block
times_to (suc n) c b = keep (c % 2) b ⊕ double (times_to n (c / 2) b)

-- 3.2: the block times a constant of the field, as 0x03 for x + 1
unfoldable pub times : ℕ → Block → Block
times = times_to 8

-- 3.2: the element at bit position l, the sum of a_k,l x^k over k below 8
unfoldable pub element : ℕ → Block → ℕ
element l b = from_bits 8 (λ k. bit l (get_or (words_of b) k 0))

-- 3.2: the definition polynomial φ at x = 2
abbrev pub φ : ℕ
φ = 0x11b

-- 3.2: an element times x; φ is taken away where x^8 appears
unfoldable pub times_x : ℕ → ℕ
times_x e = bit_xor (bit 7 e * φ) (e * 2)

-- 3.2: e times the polynomial of degree below n whose coefficients are the bits of c, where f is multiplication by x
unfoldable pub multiple : (f : ℕ → ℕ) → (n c e : ℕ) → ℕ
multiple f zero c e = 0
multiple f (suc n) c e = bit_xor (c % 2 * e) (f (multiple f n (c / 2) e))

-- 3.2: the product of two elements of the field
unfoldable pub product : ℕ → ℕ → ℕ
product = multiple times_x 8

-- 3.2, the field of φ: the product of two polynomials of degree below 8, from which φ is not yet taken
unfoldable pub carryless : ℕ → ℕ → ℕ
carryless = multiple (λ e. e * 2) 8

-- 3.2, the field of φ: what division by φ leaves of a polynomial of degree below 8 + n. φ x^k is taken away where x^(8 + k) appears, for each
-- k below n from the highest on
unfoldable pub remainder : ℕ → ℕ → ℕ
remainder zero p = p
remainder (suc n) p = remainder n (bit_xor (bit (8 + n) p * (φ * 2 ^ n)) p)
