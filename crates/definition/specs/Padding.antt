-- Message padding, and a message as blocks: sections 3.1 and 2.2 of the source. A message is a bit string; one of whole bytes, and then of some
-- bits more, is padded as bytes too.
use Rattle.std.specs.Prelude.{ℕ, zero, suc, ◌+◌, ◌-◌, ◌*◌, ◌/◌, ◌%◌, ◌^◌, List, [], ◌∷◌, ◌++◌, length, get_or, take, drop, replicate}
use Rattle.definition.specs.declared.Block.{Block}
use Rattle.definition.specs.Word.{bit}
use Rattle.definition.specs.Block.{block_of}

-- 3.1: "the bit string 100..0 is appended", with "the smallest non-negative" number of zeros that makes the length a multiple of 256
unfoldable pub padded_bits : List ℕ → List ℕ
padded_bits m = m ++ 1 ∷ replicate (255 - length m % 256) 0

-- 2.2: eight bits as a byte, "[msb] .. [lsb]", and all full bytes of a bit string
unfoldable pub byte_of : List ℕ → ℕ
byte_of x =
    get_or x 0 0 * 2 ^ 7 + get_or x 1 0 * 2 ^ 6 + get_or x 2 0 * 2 ^ 5 + get_or x 3 0 * 2 ^ 4
    + get_or x 4 0 * 2 ^ 3 + get_or x 5 0 * 2 ^ 2 + get_or x 6 0 * 2 + get_or x 7 0

unfoldable pub bytes_to : ℕ → List ℕ → List ℕ
bytes_to zero x = []
bytes_to (suc n) x = byte_of x ∷ bytes_to n (drop 8 x)

unfoldable pub bytes_in : List ℕ → List ℕ
bytes_in x = bytes_to (length x / 8) x

-- 2.2: the n lowest bits of a number, the highest of them first
unfoldable pub low_bits : ℕ → ℕ → List ℕ
low_bits zero a = []
low_bits (suc n) a = bit n a ∷ low_bits n a

-- the eight bits of a byte; what is above the lowest seven of a byte is one bit, and nothing is lost of any other number
unfoldable pub bits_of_byte : ℕ → List ℕ
bits_of_byte a = a / 2 ^ 7 ∷ low_bits 7 a

unfoldable pub bits_of : List ℕ → List ℕ
bits_of [] = []
bits_of (a ∷ m) = bits_of_byte a ++ bits_of m

-- document 02, Q-7: the byte with the odd bits "is the last of its piece", so that the whole bytes are one fewer
unfoldable pub whole_bytes : (odd bytes : ℕ) → ℕ
whole_bytes zero n = n
whole_bytes (suc o) n = n - 1

-- "may end with 1 to 7 bits, taken from the high end of its byte": the bit string of bytes with so many odd bits
unfoldable pub bits_in : List ℕ → (odd : ℕ) → List ℕ
bits_in m odd = take (8 * whole_bytes odd (length m) + odd) (bits_of m)

-- the odd bits of a byte, the others zero: "its unused low bits are ignored"
unfoldable pub high_bits : (odd byte : ℕ) → ℕ
high_bits zero byte = 0
high_bits (suc o) byte = byte / 2 ^ (7 - o) * 2 ^ (7 - o)

-- 3.1: the byte that a message is closed with: its odd bits, "the padding bit follows directly", and the first of the zeros
unfoldable pub closing_byte : (odd byte : ℕ) → ℕ
closing_byte odd byte = high_bits odd byte + 2 ^ (7 - odd)

-- without odd bits: the bit 1 and seven of the zeros
abbrev pub closing : ℕ
closing = 0x80

-- 3.1: the closing byte and the fewest zero bytes that reach a multiple of 32
unfoldable pub padding : (byte len : ℕ) → List ℕ
padding byte len = byte ∷ replicate (31 - len % 32) 0

unfoldable pub padded : (byte : ℕ) → List ℕ → List ℕ
padded byte m = m ++ padding byte (length m)

-- 2.2: the first n blocks of 32 bytes
unfoldable pub blocks_to : ℕ → List ℕ → List Block
blocks_to zero x = []
blocks_to (suc n) x = block_of x ∷ blocks_to n (drop 32 x)

-- 2.2: all full blocks of 32 bytes
unfoldable pub blocks : List ℕ → List Block
blocks x = blocks_to (length x / 32) x

-- 3.1: the bytes after the last full block, and the padded block that they begin
unfoldable pub rest : List ℕ → List ℕ
rest x = drop (length x / 32 * 32) x

unfoldable pub last_block : (byte : ℕ) → List ℕ → Block
last_block byte x = block_of (rest x ++ padding byte (length x))
