-- The blocks are the ring GF(2^8)^32: at each of the 32 bit positions XOR is the sum of two elements, and a block times a constant is the
-- product of two, which is the remainder of the product of two polynomials modulo φ. A block times a constant is linear in both.
-- Assumes nothing.
use mathlib.Core.Path.{◌≡◌, refl, sym, ap, ap₂, ◌∙◌}
use mathlib.Core.Bool.{Bool}
use mathlib.Core.List.{List, [], ◌∷◌}
use Prim.Native.Nat.{ℕ, zero, suc, ◌+◌, ◌*◌, ◌/◌, ◌%◌, ◌^◌, ◌<◌}
use native.Mathlib.Nat.{add-zero, mul_assoc, mul-le-mul_right, zero-mul, one-mul, mod-lt, zero-lt-suc, mul-div_cancel, mul-mod_left, pow-suc, div-lt_iff_lt-mul}
use lib.Arith.{lt-one}
use native.Mathlib.Omega.{arith}
use lib.Bits.{bit_xor, xor_shr, xor_mod, xor_self, xor_zero_r, xor_block, xor_lt}
use lib.Dec.{eqb, eqb→eq, ltb, ltb→lt}
use lib.ListN.{get_or}
use lib.Pow.{pow_pos}
use Rattle.definition.specs.declared.Block.{Block}
use Rattle.definition.specs.Word.{bit, from_bits}
use Rattle.definition.specs.Block.{◌⊕◌, zero_block, words_of}
use Rattle.definition.specs.Field.{double, keep, times_to, times, element, φ, times_x, multiple, product, carryless, remainder}
use Rattle.definition.proofs.Bits.{bit_lt, bits_at, bit-xor, bit-zero, bit-shl, bit_above, from_bits-lt, from_bits-xor}
use Rattle.definition.proofs.Cases.{at_bits, at_below}
use Rattle.definition.proofs.Xor.{word_swap, ⊕-zero, zero-⊕, ⊕-self, ⊕-swap, double-⊕}

-- doubling's words, at one bit
doubled : List ℕ → List ℕ
doubled bs =
    let a7 : ℕ = get_or bs 7 0 in
    a7
    ∷ bit_xor (get_or bs 0 0) a7
    ∷ get_or bs 1 0
    ∷ bit_xor (get_or bs 2 0) a7
    ∷ bit_xor (get_or bs 3 0) a7
    ∷ get_or bs 4 0
    ∷ get_or bs 5 0
    ∷ get_or bs 6 0
    ∷ []

agrees : List ℕ → Bool
agrees bs = eqb (from_bits 8 (λ k. get_or (doubled bs) k 0)) (times_x (from_bits 8 (λ k. get_or bs k 0)))

-- 3.2: doubling is multiplication by x at each bit position
pub double-element : (l : ℕ) (b : Block) → element l (double b) ≡ times_x (element l b)
unfolding element double words_of agrees doubled from_bits times_x bit
double-element l b =
    rw (bit-xor l b.a0 b.a7, bit-xor l b.a2 b.a7, bit-xor l b.a3 b.a7)
    (eqb→eq _ _ (at_bits agrees tt (bits_at l (words_of b))))

-- and XOR is the sum
pub element-⊕ : (l : ℕ) (a b : Block) → element l (a ⊕ b) ≡ bit_xor (element l a) (element l b)
unfolding element from_bits words_of ◌⊕◌
element-⊕ l a b =
    simp bit-xor
    (from_bits-xor 8 (λ k. bit l (get_or (words_of a) k 0)) (λ k. bit l (get_or (words_of b) k 0)) (λ k. bit_lt l _) (λ k. bit_lt l _))

pub element_lt : (l : ℕ) (b : Block) → element l b < 2 ^ 8
unfolding element
element_lt l b = from_bits-lt 8 _ (λ k. bit_lt l _)

pub element-zero : (l : ℕ) → element l zero_block ≡ 0
unfolding element from_bits words_of
element-zero l = rw (bit-zero l)

element-keep : (l c : ℕ) (b : Block) → c < 2 → element l (keep c b) ≡ c * element l b
unfolding keep
element-keep l zero b h = rw zero-mul (element-zero l)
element-keep l (suc zero) b h = rw one-mul
element-keep l (suc (suc c)) b h = absurd (omega arith)

element-times_to : (l n c : ℕ) (b : Block) → element l (times_to n c b) ≡ multiple times_x n c (element l b)
unfolding times_to multiple
element-times_to l zero c b = element-zero l
element-times_to l (suc n) c b =
    let t : Block = times_to n (c / 2) b in
    rw (element-⊕ l (keep (c % 2) b) (double t), element-keep l (c % 2) b (mod-lt c (zero-lt-suc 1)), double-element l t, element-times_to l n (c / 2) b)

-- 3.2: a block times a constant is the product in the field at each bit position
pub times-element : (l c : ℕ) (b : Block) → element l (times c b) ≡ product c (element l b)
unfolding times product
times-element l = element-times_to l 8

-- a product of a bit is linear in it, and division by φ is linear
bit_scaled : (x y k : ℕ) → x < 2 → y < 2 → bit_xor x y * k ≡ bit_xor (x * k) (y * k)
bit_scaled zero y k hx hy = rw zero-mul
bit_scaled (suc zero) zero k hx hy = rw zero-mul (sym (xor_zero_r (1 * k)))
bit_scaled (suc zero) (suc zero) k hx hy = rw (zero-mul, xor_self)
bit_scaled (suc zero) (suc (suc y)) k hx hy = absurd (omega arith)
bit_scaled (suc (suc x)) y k hx hy = absurd (omega arith)

remainder-xor : (n p q : ℕ) → remainder n (bit_xor p q) ≡ bit_xor (remainder n p) (remainder n q)
unfolding remainder
remainder-xor zero p q = refl
remainder-xor (suc n) p q =
    let x : ℕ = bit (8 + n) p in
    let y : ℕ = bit (8 + n) q in
    let k : ℕ = φ * 2 ^ n in
    rw (bit-xor (8 + n) p q, bit_scaled x y k (bit_lt (8 + n) p) (bit_lt (8 + n) q), word_swap (x * k) (y * k) p q)
    (remainder-xor n (bit_xor (x * k) p) (bit_xor (y * k) q))

-- nothing is taken away from an element
remainder-element : (n e : ℕ) → e < 2 ^ 8 → remainder n e ≡ e
unfolding remainder
remainder-element zero e h = refl
remainder-element (suc n) e h = rw (bit_above 8 n e h, zero-mul) (remainder-element n e h)

-- what is left of a polynomial times x is x times what is left of the polynomial
xor-twice : (a b : ℕ) → bit_xor (a * 2) (b * 2) ≡ bit_xor a b * 2
xor-twice a b = simp add-zero at (xor_block 1 a b 0 0 (pow_pos 1) (pow_pos 1))

remainder-twice : (n p : ℕ) → remainder (suc n) (p * 2) ≡ times_x (remainder n p)
unfolding remainder
remainder-twice zero p = unfold times_x in rw (bit-shl 1 7 p)
remainder-twice (suc n) p =
    let t : ℕ = bit (8 + n) p * (φ * 2 ^ n) in
    let i : 8 + suc n ≡ 1 + (8 + n) = omega arith in
    let e : bit_xor (bit (8 + suc n) (p * 2) * (φ * 2 ^ suc n)) (p * 2) ≡ bit_xor t p * 2 =
    rw (i, bit-shl 1 (8 + n) p, pow-suc 2 n, ← (mul_assoc φ (2 ^ n) 2), ← (mul_assoc (bit (8 + n) p) (φ * 2 ^ n) 2)) (xor-twice t p) in
    ap (remainder (suc n)) e ∙ remainder-twice n (bit_xor t p)

-- a bit times an element is an element
scaled_lt : (c e : ℕ) → e < 2 ^ 8 → c % 2 * e < 2 ^ 8
scaled_lt c e h = omega (arith, mul-le-mul_right {m = c % 2} {n = 1} e (omega arith), h)

remainder-multiple : (n c e : ℕ) → e < 2 ^ 8 → remainder n (multiple (λ e. e * 2) (suc n) c e) ≡ multiple times_x (suc n) c e
unfolding multiple
remainder-multiple zero c e h = unfold remainder times_x bit in refl
remainder-multiple (suc n) c e h =
    let m : ℕ = multiple (λ e. e * 2) (suc n) (c / 2) e in
    remainder-xor (suc n) (c % 2 * e) (m * 2)
    ∙ ap₂ bit_xor (remainder-element (suc n) (c % 2 * e) (scaled_lt c e h)) (remainder-twice n m ∙ ap times_x (remainder-multiple n (c / 2) e h))

-- the product in the field is the remainder of the product of the polynomials
pub product-remainder : (c e : ℕ) → e < 2 ^ 8 → product c e ≡ remainder 7 (carryless c e)
unfolding product carryless
product-remainder c e h = sym (remainder-multiple 7 c e h)

-- and an element again
times_x-lt : (e : ℕ) → e < 2 ^ 8 → times_x e < 2 ^ 8
unfolding times_x bit
times_x-lt e h = ltb→lt _ _ (at_below 256 (λ e. ltb (times_x e) (2 ^ 8)) tt e h)

multiple_lt : (n c e : ℕ) → e < 2 ^ 8 → multiple times_x n c e < 2 ^ 8
unfolding multiple
multiple_lt zero c e h = pow_pos 8
multiple_lt (suc n) c e h = xor_lt 8 (c % 2 * e) _ (scaled_lt c e h) (times_x-lt _ (multiple_lt n (c / 2) e h))

pub product_lt : (c e : ℕ) → e < 2 ^ 8 → product c e < 2 ^ 8
unfolding product
product_lt = multiple_lt 8

-- 0 and 1 times a block
keep-⊕ : (x y : ℕ) (b : Block) → x < 2 → y < 2 → keep (bit_xor x y) b ≡ keep x b ⊕ keep y b
unfolding keep
keep-⊕ zero y b hx hy = sym (zero-⊕ (keep y b))
keep-⊕ (suc zero) zero b hx hy = sym (⊕-zero b)
keep-⊕ (suc zero) (suc zero) b hx hy = sym (⊕-self b)
keep-⊕ (suc zero) (suc (suc y)) b hx hy = absurd (omega arith)
keep-⊕ (suc (suc x)) y b hx hy = absurd (omega arith)

-- a sum of constants, each modulo nothing
times_to-xor : (n c d : ℕ) (b : Block) → times_to n (bit_xor c d) b ≡ times_to n c b ⊕ times_to n d b
unfolding times_to
times_to-xor zero c d b = sym (zero-⊕ zero_block)
times_to-xor (suc n) c d b =
    let two : 0 < 2 = zero-lt-suc 1 in
    let s : Block = times_to n (c / 2) b in
    let t : Block = times_to n (d / 2) b in
    rw (xor_mod c d 1, xor_shr c d 1, keep-⊕ (c % 2) (d % 2) b (mod-lt c two) (mod-lt d two), times_to-xor n (c / 2) (d / 2) b, double-⊕ s t)
    (⊕-swap (keep (c % 2) b) (keep (d % 2) b) (double s) (double t))

-- a constant of n bits has no coefficient past them
times_to-zero : (n : ℕ) (b : Block) → times_to n 0 b ≡ zero_block
unfolding times_to keep
times_to-zero zero b = refl
times_to-zero (suc n) b = rw (times_to-zero n b) (unfold double ◌⊕◌ in refl)

times_to-more : (n c : ℕ) (b : Block) → c < 2 ^ n → times_to (suc n) c b ≡ times_to n c b
unfolding times_to
times_to-more zero c b h = ap (λ (x : ℕ). times_to 1 x b) (lt-one h) ∙ times_to-zero 1 b
times_to-more (suc n) c b h =
    rw (times_to-more n (c / 2) b ((div-lt_iff_lt-mul (zero-lt-suc 1)).1 (rw pow-suc at h)))

-- a block times a constant: the constants 0 and 1, a sum of constants, and a constant times x that stays below x^8
pub times_zero : (b : Block) → times 0 b ≡ zero_block
unfolding times
times_zero b = times_to-zero 8 b

pub times_one : (b : Block) → times 1 b ≡ b
unfolding times times_to keep double
times_one b = rw (times_to-zero 7 b) (⊕-zero b)

pub times-xor : (c d : ℕ) (b : Block) → times (bit_xor c d) b ≡ times c b ⊕ times d b
unfolding times
times-xor = times_to-xor 8

times_to-even : (n c : ℕ) (b : Block) → times_to (suc n) (c * 2) b ≡ double (times_to n c b)
unfolding times_to keep
times_to-even n c b = rw (mul-mod_left c 2, mul-div_cancel c (zero-lt-suc 1)) (zero-⊕ (double (times_to n c b)))

pub times-twice : (c : ℕ) (b : Block) → c < 2 ^ 7 → times (c * 2) b ≡ double (times c b)
unfolding times
times-twice c b h = times_to-even 7 c b ∙ ap double (sym (times_to-more 7 c b h))
