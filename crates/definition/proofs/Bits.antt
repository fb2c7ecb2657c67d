-- A word is its bits: the bits of what the machine's operations give, and a word put together again from its bits.
-- Assumes nothing.
use mathlib.Core.Path.{◌≡◌, refl, sym, ap, ap₂, ◌∙◌}
use mathlib.Core.List.{List, [], ◌∷◌, map}
use mathlib.Core.Logic.{⊎_elim}
use Prim.Native.Nat.{ℕ, zero, suc, ◌+◌, ◌-◌, ◌*◌, ◌/◌, ◌%◌, ◌^◌, ◌<◌, ◌≤◌}
use native.Mathlib.Nat.{mod-lt, mod-eq_of_lt, zero-lt-suc, mod-one, zero-div, div-eq_of_lt, mul-mod_left, mul-le-mul_right, pow-suc, eq-or-lt_of_le, not-suc-le-zero, le_of_suc-le-suc}
use native.Mathlib.Decide.{dec_lt}
use native.Mathlib.Numerals.{one-add}
use native.Mathlib.Omega.{arith}
use lib.Bits.{bit_xor, bit_and, bit_or, xor_shr, xor_mod, xor_block, and_shr, and_mod, or_shr, or_mod, or_zero_r, xor_add_and, and_mask}
use lib.Dec.{lit<}
use lib.Pow.{pow_pos, mod-pow-add, ones_split, ones_lt, high, low, shr-shr, shl-shr, field, mod-mod-pow}
use lib.ListN.{length}
use Rattle.definition.specs.Word.{bit, from_bits, rotl}
use Rattle.definition.proofs.Cases.{Bits, none, more}

pub bit_lt : (l a : ℕ) → bit l a < 2
unfolding bit
bit_lt l a = mod-lt (a / 2 ^ l) (zero-lt-suc 1)

pub bit-xor : (l a b : ℕ) → bit l (bit_xor a b) ≡ bit_xor (bit l a) (bit l b)
unfolding bit
bit-xor l a b = rw xor_shr (xor_mod (a / 2 ^ l) (b / 2 ^ l) 1)

pub bit_and_lem : (l a b : ℕ) → bit l (bit_and a b) ≡ bit_and (bit l a) (bit l b)
unfolding bit
bit_and_lem l a b = rw and_shr (and_mod (a / 2 ^ l) (b / 2 ^ l) 1)

pub bit_or_lem : (l a b : ℕ) → bit l (bit_or a b) ≡ bit_or (bit l a) (bit l b)
unfolding bit
bit_or_lem l a b = rw or_shr (or_mod (a / 2 ^ l) (b / 2 ^ l) 1)

-- the complement in n bits is the XOR with n ones
complement : (n a : ℕ) → a < 2 ^ n → 2 ^ n - 1 - a ≡ bit_xor a (2 ^ n - 1)
complement n a h = omega (arith, xor_add_and a (2 ^ n - 1), and_mask a n, mod-eq_of_lt h)

-- a number below 2^n from its bits
pub from_bits-bit : (n a : ℕ) → from_bits n (λ l. bit l a) ≡ a % 2 ^ n
unfolding from_bits bit
from_bits-bit zero a = sym (mod-one a)
from_bits-bit (suc n) a = rw (from_bits-bit n a) (sym (mod-pow-add a 1 n) ∙ ap (λ (k : ℕ). a % 2 ^ k) (one-add n))

pub from_bits-cong : (n : ℕ) (f g : ℕ → ℕ) → ((l : ℕ) → l < n → f l ≡ g l) → from_bits n f ≡ from_bits n g
unfolding from_bits
from_bits-cong zero f g h = refl
from_bits-cong (suc n) f g h =
    ap₂ (λ (x y : ℕ). x * 2 ^ n + y) (h n (omega arith)) (from_bits-cong n f g (λ l k. h l (omega arith)))

-- n bits make a number of n bits, and XOR works at each bit
pub from_bits-lt : (n : ℕ) (f : ℕ → ℕ) → ((l : ℕ) → f l < 2) → from_bits n f < 2 ^ n
unfolding from_bits
from_bits-lt zero f h = pow_pos 0
from_bits-lt (suc n) f h =
    omega (arith, from_bits-lt n f h, mul-le-mul_right {m = f n} {n = 1} (2 ^ n) (omega (arith, h n)), pow-suc 2 n)

pub from_bits-xor : (n : ℕ) (f g : ℕ → ℕ) → ((l : ℕ) → f l < 2) → ((l : ℕ) → g l < 2)
    → from_bits n (λ l. bit_xor (f l) (g l)) ≡ bit_xor (from_bits n f) (from_bits n g)
unfolding from_bits
from_bits-xor zero f g hf hg = refl
from_bits-xor (suc n) f g hf hg =
    rw (from_bits-xor n f g hf hg) (sym (xor_block n (f n) (g n) _ _ (from_bits-lt n f hf) (from_bits-lt n g hg)))

-- a word whose bits are f's is the word put together from f
pub from_its_bits : (n a : ℕ) (f : ℕ → ℕ) → a < 2 ^ n → ((l : ℕ) → l < n → bit l a ≡ f l) → a ≡ from_bits n f
from_its_bits n a f h e =
    sym (mod-eq_of_lt h) ∙ sym (from_bits-bit n a) ∙ from_bits-cong n (λ l. bit l a) f e

-- a word is the one put together from its own bits
pub own_bits : (a : ℕ) → a < 2 ^ 32 → from_bits 32 (λ l. bit l a) ≡ a
own_bits a h = from_bits-bit 32 a ∙ mod-eq_of_lt h

-- bit l of ones in l + 1 + j places
bit_ones : (j l : ℕ) → bit l (2 ^ (j + 1 + l) - 1) ≡ 1
unfolding bit
bit_ones j l =
    rw (ones_split (j + 1) l, high (2 ^ (j + 1) - 1) l (ones_lt l), ones_split j 1)
    (low (2 ^ j - 1) 1 (lit< tt))

-- the complement at a bit, which is the complement in one bit
pub bit_not : (n l a : ℕ) → l < n → a < 2 ^ n → bit l (2 ^ n - 1 - a) ≡ 2 ^ 1 - 1 - bit l a
bit_not n l a hl ha =
    let e : n - l - 1 + 1 + l ≡ n = omega arith in
    rw (complement n a ha, bit-xor) (rw (complement 1 (bit l a) (bit_lt l a))
    (ap (bit_xor (bit l a)) (rw e at (bit_ones (n - l - 1) l))))

-- the bits of words at one place
pub bits_at : (l : ℕ) (ws : List ℕ) → Bits (length ws) (map (bit l) ws)
bits_at l [] = none
bits_at l (a ∷ ws) = more (bit_lt l a) (bits_at l ws)

pub bit-zero : (l : ℕ) → bit l 0 ≡ 0
unfolding bit
bit-zero l = rw zero-div

-- the bits of the lowest n bits, of a shift to the right and of one to the left
pub bit-mod : (n l a : ℕ) → l < n → bit l (a % 2 ^ n) ≡ bit l a
unfolding bit
bit-mod n l a h =
    let e : n - l - 1 + 1 + l ≡ n = omega arith in
    rw (rw e at (field a (n - l - 1 + 1) l)) (mod-mod-pow (a / 2 ^ l) (n - l - 1) 1)

-- bit l of n bits put together is the l-th
pub bit_of_bits : (n l : ℕ) (f : ℕ → ℕ) → ((l : ℕ) → f l < 2) → l < n → bit l (from_bits n f) ≡ f l
unfolding from_bits
bit_of_bits zero l f h hl = absurd (not-suc-le-zero hl)
bit_of_bits (suc n) l f h hl =
    let r : from_bits n f < 2 ^ n = from_bits-lt n f h in
    ⊎_elim
    (λ (e : l ≡ n). rw e (unfold bit in rw (high (f n) n r) (mod-eq_of_lt (h n))))
    (λ (k : l < n). sym (bit-mod n l _ k) ∙ rw (low (f n) n r) (bit_of_bits n l f h k))
    (eq-or-lt_of_le (le_of_suc-le-suc hl))

bit-shr : (k l a : ℕ) → bit l (a / 2 ^ k) ≡ bit (k + l) a
unfolding bit
bit-shr k l a = rw shr-shr

pub bit-shl : (k l a : ℕ) → bit (k + l) (a * 2 ^ k) ≡ bit l a
bit-shl k l a = sym (bit-shr k l (a * 2 ^ k)) ∙ ap (bit l) (shl-shr a k)

pub bit_below : (k l a : ℕ) → l < k → bit l (a * 2 ^ k) ≡ 0
bit_below k l a h = sym (bit-mod k l (a * 2 ^ k) h) ∙ rw (mul-mod_left a (2 ^ k)) (bit-zero l)

pub bit_above : (k l a : ℕ) → a < 2 ^ k → bit (k + l) a ≡ 0
bit_above k l a h = sym (bit-shr k l a) ∙ rw (div-eq_of_lt h) (bit-zero l)

-- 4.5: bit l of a word rotated left by n is its bit l - n mod 32
pub bit-rotl : (n l a : ℕ) → n ≤ 32 → l < 32 → a < 2 ^ 32 → bit l (rotl n a) ≡ bit ((l + 32 - n) % 32) a
unfolding rotl
bit-rotl n l a hn hl ha =
    rw (bit_or_lem, bit-mod 32 l (a * 2 ^ n) hl, bit-shr (32 - n) l a)
    (elim (dec_lt l n) [
      | yes p ↦
          let e : (l + 32 - n) % 32 ≡ 32 - n + l = omega arith in
          rw (bit_below n l a p, e)
      | no p ↦
          let e : (l + 32 - n) % 32 ≡ l - n = omega arith in
          let d : 32 - n + l ≡ 32 + (l - n) = omega arith in
          let f : n + (l - n) ≡ l = omega arith in
          rw (d, bit_above 32 (l - n) a ha, rw f at (bit-shl n (l - n) a), e) (or_zero_r (bit (l - n) a))
    ])
