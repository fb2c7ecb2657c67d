-- A string of bytes is the bit string of their bits, and padded as bytes it is padded as bits: the closing byte is the odd bits, the padding
-- bit and zeros. So the output of a bit string is that of its whole bytes under its closing byte.
-- Assumes nothing.
use mathlib.Core.Path.{◌≡◌, refl, sym, ap, ap₂, ◌∙◌}
use mathlib.Core.List.{List, [], ◌∷◌, ◌++◌, append_assoc}
use Prim.Native.Nat.{ℕ, zero, suc, ◌+◌, ◌-◌, ◌*◌, ◌/◌, ◌%◌, ◌^◌, ◌<◌, ◌≤◌}
use native.Mathlib.Nat.{div-add-mod', add-zero, pow-suc, le_refl, zero-lt-suc}
use native.Mathlib.Omega.{arith}
use lib.Pow.{shr-shr, high, low, pow_pos}
use lib.ListN.{take-append-drop, length, get_or, take, drop, replicate, length-append, replicate-append-replicate}
use lib.Seq.{take_all, take-append-le, take-append-add, drop-cons, length-take-le}
use Rattle.definition.specs.declared.Block.{Block}
use Rattle.definition.specs.Word.{bit, from_bits}
use Rattle.definition.specs.Round.{chain}
use Rattle.definition.specs.Width.{width_at}
use Rattle.definition.specs.Padding.{padded_bits, byte_of, bytes_to, bytes_in, low_bits, bits_of_byte, bits_of, whole_bytes, bits_in, high_bits, closing_byte, closing, padding, padded, blocks}
use Rattle.definition.specs.Start.{start}
use Rattle.definition.specs.Luffa.{words_at, output_of, output_of_bits, luffa_output, luffa_of_bits, digest_after, luffa}
use Rattle.definition.proofs.Bits.{from_bits-bit, bit-shl, bit_below}

-- bytes one after the other, and how many bits they have
pub bits-append : (x y : List ℕ) → bits_of (x ++ y) ≡ bits_of x ++ bits_of y
unfolding bits_of
bits-append [] y = refl
bits-append (a ∷ x) y = rw (bits-append x y, append_assoc (bits_of_byte a) (bits_of x) (bits_of y))

pub length-bits : (x : List ℕ) → length (bits_of x) ≡ 8 * length x
unfolding bits_of bits_of_byte low_bits
length-bits [] = refl
length-bits (a ∷ x) = omega (arith, length-bits x)

-- the bits of a byte are read as that byte
pub byte-bits : (a : ℕ) (x : List ℕ) → byte_of (bits_of_byte a ++ x) ≡ a
unfolding byte_of bits_of_byte low_bits
byte-bits a x = omega (arith, seven, div-add-mod' a (2 ^ 7))
  where
    seven : bit 6 a * 2 ^ 6 + (bit 5 a * 2 ^ 5 + (bit 4 a * 2 ^ 4 + (bit 3 a * 2 ^ 3 + (bit 2 a * 2 ^ 2 + (bit 1 a * 2 ^ 1 + (bit 0 a * 2 ^ 0 + 0)))))) ≡ a % 2 ^ 7
    seven = unfold from_bits in from_bits-bit 7 a

bytes_to_lem : (x : List ℕ) → bytes_to (length x) (bits_of x) ≡ x
unfolding bytes_to bits_of bits_of_byte low_bits
bytes_to_lem [] = refl
bytes_to_lem (a ∷ x) = ap₂ (λ (b : ℕ) (y : List ℕ). b ∷ y) (byte-bits a (bits_of x)) (bytes_to_lem x)

pub bytes_of_bits : (x : List ℕ) → bytes_in (bits_of x) ≡ x
unfolding bytes_in
bytes_of_bits x = let e : length (bits_of x) / 8 ≡ length x = omega (arith, length-bits x) in rw e (bytes_to_lem x)

-- zero bytes are zero bits
pub bits-zeros : (n : ℕ) → bits_of (replicate n 0) ≡ replicate (8 * n) 0
unfolding bits_of bits_of_byte low_bits bit
bits-zeros zero = refl
bits-zeros (suc n) =
    let e : 8 * suc n ≡ 8 + 8 * n = omega arith in
    rw (e, bits-zeros n) (replicate-append-replicate 8 (8 * n) 0)

-- the bits of an odd number of 2^k: those of the number above them, a 1 at place k, and zeros below it
module _ (q k : ℕ) where
  closed : ℕ
  closed = q * 2 ^ suc k + 2 ^ k

  as_shift : closed ≡ (2 * q + 1) * 2 ^ k
  unfolding closed
  as_shift = rw (pow-suc 2 k) (omega arith)

  low_zeros : (n : ℕ) → n ≤ k → low_bits n closed ≡ replicate n 0
  unfolding low_bits
  low_zeros zero h = refl
  low_zeros (suc n) h =
      ap₂ (λ (b : ℕ) (y : List ℕ). b ∷ y) (ap (bit n) as_shift ∙ bit_below k n (2 * q + 1) (omega arith)) (low_zeros n (omega arith))

  the_one : bit k closed ≡ 1
  the_one = ap (bit k) as_shift ∙ (rw (add-zero k) at (bit-shl k 0 (2 * q + 1))) ∙ unfold bit in omega arith

  -- above it stands q, as in any number b that is q there
  above : (b : ℕ) → b / 2 ^ suc k ≡ q → (n j : ℕ) → n ≡ suc k + j → closed / 2 ^ n ≡ b / 2 ^ n
  unfolding closed
  above b e n j m =
      rw (m, ← shr-shr (q * 2 ^ suc k + 2 ^ k) (suc k) j, ← shr-shr b (suc k) j, e)
      (ap (λ (a : ℕ). a / 2 ^ j) (high q (suc k) (omega (arith, pow-suc 2 k, pow_pos k))))

  low_closed : (b : ℕ) → b / 2 ^ suc k ≡ q → (n j : ℕ) → n ≡ suc k + j → low_bits n closed ≡ take j (low_bits n b) ++ 1 ∷ replicate k 0
  unfolding low_bits
  low_closed b e zero j m = absurd (omega arith)
  low_closed b e (suc n) zero m = let p : n ≡ k = omega arith in rw (p, the_one, low_zeros k (le_refl k))
  low_closed b e (suc n) (suc j) m =
      ap₂ (λ (a : ℕ) (y : List ℕ). a ∷ y) (unfold bit in rw (above b e n j (omega arith))) (low_closed b e n j (omega arith))

-- the closing byte's bits: the odd bits, the padding bit, zeros
closing-bits : (o b : ℕ) → o ≤ 7 → take o (bits_of_byte b) ++ 1 ∷ replicate (7 - o) 0 ≡ bits_of_byte (closing_byte o b)
unfolding closing_byte high_bits bits_of_byte closed
closing-bits zero b h = unfold low_bits bit in refl
closing-bits (suc o) b h =
    let k : ℕ = 6 - o in
    let m : 7 - suc o ≡ k = omega arith in
    let n : 7 - o ≡ suc k = omega arith in
    let seven : 7 ≡ suc k + o = omega arith in
    rw (m, n)
    (ap₂ (λ (a : ℕ) (y : List ℕ). a ∷ y)
    (sym (above (b / 2 ^ suc k) k b refl 7 o seven))
    (sym (low_closed (b / 2 ^ suc k) k b refl 7 o seven)))

-- and with zero bytes after it
closing_end : (o b n : ℕ) → o ≤ 7 → take o (bits_of_byte b) ++ 1 ∷ replicate (7 - o + 8 * n) 0 ≡ bits_of (closing_byte o b ∷ replicate n 0)
unfolding bits_of
closing_end o b n h =
    rw (← closing-bits o b h, bits-zeros n, append_assoc (take o (bits_of_byte b)) (1 ∷ replicate (7 - o) 0) (replicate (8 * n) 0), replicate-append-replicate {A = ℕ} (7 - o) (8 * n) 0)

-- some bytes' bits, and some bits more
bits-take : (p : List ℕ) (n o : ℕ) → n ≤ length p → take (8 * n + o) (bits_of p) ≡ bits_of (take n p) ++ take o (bits_of (drop n p))
bits-take p n o h =
    let e : length (bits_of (take n p)) ≡ 8 * n = omega (arith, length-bits (take n p), length-take-le n p h) in
    ap (λ (x : List ℕ). take (8 * n + o) (bits_of x)) (sym (take-append-drop n p))
    ∙ rw (bits-append (take n p) (drop n p), ← e) (take-append-add (bits_of (take n p)) (bits_of (drop n p)) o)

-- and the odd bits alone
odd-bits : (p : List ℕ) (n o : ℕ) → o ≤ 7 → 8 * n + o ≤ 8 * length p → take o (bits_of (drop n p)) ≡ take o (bits_of_byte (get_or p n 0))
odd-bits p n zero h l = refl
odd-bits p n (suc o) h l =
    rw (drop-cons p n 0 (omega arith)) (unfold bits_of in take-append-le (suc o) (bits_of_byte (get_or p n 0)) (bits_of (drop (suc n) p)) (unfold bits_of_byte low_bits in omega arith))

-- bits padded are bytes padded
pub padded-bits : (p : List ℕ) (n o : ℕ) → o ≤ 7 → 8 * n + o ≤ 8 * length p
    → padded_bits (take (8 * n + o) (bits_of p)) ≡ bits_of (padded (closing_byte o (get_or p n 0)) (take n p))
unfolding padded_bits padded padding
padded-bits p n o h l =
    let x : List ℕ = take n p in
    let t : List ℕ = take o (bits_of_byte (get_or p n 0)) in
    let e : length x ≡ n = length-take-le n p (omega arith) in
    let m : length (bits_of x ++ t) ≡ 8 * n + o =
    omega (arith, length-append (bits_of x) t, length-bits x, length-take-le o (bits_of_byte (get_or p n 0)) (unfold bits_of_byte low_bits in omega arith)) in
    let d : 8 * n + o ≡ n / 32 * 2 ^ 8 + (8 * (n % 32) + o) = omega (arith, div-add-mod' n 32) in
    let r : (8 * n + o) % 2 ^ 8 ≡ 8 * (n % 32) + o = rw d (low (n / 32) 8 (omega arith)) in
    let z : 255 - (8 * n + o) % 2 ^ 8 ≡ (7 - o) + 8 * (31 - n % 32) = omega arith in
    rw (
      bits-take p n o (omega arith),
      odd-bits p n o h l,
      m,
      z,
      e,
      bits-append x (closing_byte o (get_or p n 0) ∷ replicate (31 - n % 32) 0),
      append_assoc (bits_of x) t,
    )
    (ap (λ (y : List ℕ). bits_of x ++ y) (closing_end o (get_or p n 0) (31 - n % 32) h))

-- so the output of a bit string that bytes hold is that of its whole bytes under its closing byte
pub output-bits : (code words : ℕ) (h : List Block) (p : List ℕ) (n o : ℕ) → o ≤ 7 → 8 * n + o ≤ 8 * length p
    → output_of_bits code words h (take (8 * n + o) (bits_of p))
    ≡ output_of code words (chain (width_at code) h (blocks (padded (closing_byte o (get_or p n 0)) (take n p))))
unfolding output_of_bits
output-bits code words h p n o l m = rw (padded-bits p n o l m, bytes_of_bits (padded (closing_byte o (get_or p n 0)) (take n p)))

-- all bits of whole bytes
pub bits-whole : (x : List ℕ) → take (8 * length x + 0) (bits_of x) ≡ bits_of x
bits-whole x = take_all (8 * length x + 0) (bits_of x) (omega (arith, length-bits x))

-- and of a message of whole bytes
pub output-bytes : (code words : ℕ) (h : List Block) (x : List ℕ)
    → output_of_bits code words h (bits_of x) ≡ output_of code words (chain (width_at code) h (blocks (padded closing x)))
output-bytes code words h x =
    ap (output_of_bits code words h) (sym (bits-whole x)) ∙ output-bits code words h x (length x) 0 (omega arith) (omega arith)
    ∙ unfold closing_byte high_bits in rw (take_all (length x) x (le_refl (length x)))

pub digest-bytes : (code : ℕ) (h : List Block) (x : List ℕ)
    → digest_after code h x ≡ output_of code (words_at code) (chain (width_at code) h (blocks (padded closing x)))
unfolding digest_after
digest-bytes code h x = output-bytes code (words_at code) h x

pub luffa-bytes : (code : ℕ) (m : List ℕ) → luffa code m ≡ output_of code (words_at code) (chain (width_at code) (start (width_at code)) (blocks (padded closing m)))
unfolding luffa luffa_of_bits luffa_output
luffa-bytes code m = output-bytes code (words_at code) (start (width_at code)) m

-- no odd bits: whole bytes
pub bits_none : (m : List ℕ) → bits_in m 0 ≡ bits_of m
unfolding bits_in whole_bytes
bits_none m = bits-whole m

pub luffa-whole : (code : ℕ) (m : List ℕ) → luffa_of_bits code (bits_in m 0) ≡ luffa code m
unfolding luffa
luffa-whole code m = ap (luffa_of_bits code) (bits_none m)

-- the bits of a message that ends with odd bits, where it has a byte for them
pub length_bits_in : (m : List ℕ) (odd : ℕ) → odd ≤ 7 → (0 < odd → 0 < length m) → length (bits_in m odd) ≡ 8 * whole_bytes odd (length m) + odd
unfolding bits_in whole_bytes
length_bits_in m zero h e = length-take-le (8 * length m + 0) (bits_of m) (omega (arith, length-bits m))
length_bits_in m (suc o) h e = length-take-le (8 * (length m - 1) + suc o) (bits_of m) (omega (arith, length-bits m, e (zero-lt-suc o)))
