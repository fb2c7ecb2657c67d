-- Lists of zeros, and bytes whose bits are zeros.
-- Assumes nothing.
use mathlib.Core.Path.{◌≡◌, refl, sym, ap, ap₂, ◌∙◌}
use mathlib.Core.Bool.{Bool, true, ◌&&◌, and_assoc}
use mathlib.Core.List.{List, [], ◌∷◌, ◌++◌}
use Prim.Native.Nat.{ℕ, zero, suc, ◌+◌, ◌-◌, ◌*◌, ◌/◌, ◌%◌, ◌^◌, ◌<◌, ◌≤◌}
use native.Mathlib.Nat.{zero-add, zero-mul, suc-mul, mod-one, mul-mod_left}
use native.Mathlib.Numerals.{one-add}
use native.Mathlib.Omega.{arith}
use lib.Dec.{eqb}
use lib.ListN.{length, get_or, take, drop, replicate, take-append-drop}
use lib.Pow.{pow_pos, split, mod-pow-add}
use lib.Seq.{drop-cons, drop-append-le, drop-append-add, length-take-le}
use borrow.Author.Tests.{eqb-true, ne_eqb}
use Rattle.definition.specs.Word.{bit}
use Rattle.definition.specs.Padding.{low_bits, bits_of_byte, bits_of, high_bits}
use Rattle.definition.proofs.Conditions.{both_true}
use Rattle.definition.proofs.BitStrings.{bits-append, length-bits}
use Rattle.hash_definition.specs.Record.{all_zero}

-- a list of zeros
pub zeros_replicate : (n : ℕ) → all_zero (replicate n 0) ≡ true
unfolding all_zero
zeros_replicate zero = refl
zeros_replicate (suc n) = zeros_replicate n

-- a list that passes as zeros is zeros
pub zeros : (l : List ℕ) → all_zero l ≡ true → l ≡ replicate (length l) 0
unfolding all_zero
zeros [] e = refl
zeros (a ∷ l) e =
    let p = both_true (eqb a 0) (all_zero l) e in
    ap₂ (λ (b : ℕ) (m : List ℕ). b ∷ m) (eqb-true a 0 p.0) (zeros l p.1)

pub zero_at : (l : List ℕ) → all_zero l ≡ true → (i : ℕ) → get_or l i 0 ≡ 0
unfolding all_zero
zero_at [] e zero = refl
zero_at [] e (suc i) = refl
zero_at (a ∷ l) e zero = eqb-true a 0 (both_true (eqb a 0) (all_zero l) e).0
zero_at (a ∷ l) e (suc i) = zero_at l (both_true (eqb a 0) (all_zero l) e).1 i

-- zeros from a place on are zeros from the next on
pub zero-next : (l : List ℕ) (n : ℕ) → n < length l → all_zero (drop n l) ≡ true → all_zero (drop (suc n) l) ≡ true
unfolding all_zero
zero-next l n h e =
    let c : eqb (get_or l n 0) 0 && all_zero (drop (suc n) l) ≡ true = sym (ap all_zero (drop-cons l n 0 h)) ∙ e in
    (both_true (eqb (get_or l n 0) 0) (all_zero (drop (suc n) l)) c).1

-- the zeros of two lists
pub zero-append : (xs ys : List ℕ) → all_zero (xs ++ ys) ≡ all_zero xs && all_zero ys
unfolding all_zero
zero-append [] ys = refl
zero-append (x ∷ xs) ys =
    ap (λ (b : Bool). eqb x 0 && b) (zero-append xs ys) ∙ sym (and_assoc (eqb x 0) (all_zero xs) (all_zero ys))

-- a sum is zero where both numbers are, and a number that is shifted where it is
pub plus-zero : (a b : ℕ) → eqb (a + b) 0 ≡ eqb a 0 && eqb b 0
plus-zero zero b = rw (zero-add b)
plus-zero (suc a) b = rw (ne_eqb (suc a) 0 (λ e. omega arith), ne_eqb (suc a + b) 0 (λ e. omega arith))

pub shift_zero : (a k : ℕ) → eqb (a * 2 ^ k) 0 ≡ eqb a 0
shift_zero zero k = rw (zero-mul (2 ^ k))
shift_zero (suc a) k =
    rw (ne_eqb (suc a) 0 (λ e. omega arith), ne_eqb (suc a * 2 ^ k) 0 (λ e. omega (arith, suc-mul a (2 ^ k), pow_pos k)))

-- the lowest n bits
pub low_zero : (n a : ℕ) → all_zero (low_bits n a) ≡ eqb (a % 2 ^ n) 0
unfolding all_zero low_bits
low_zero zero a = rw (mod-one a)
low_zero (suc n) a =
    let e : a % 2 ^ suc n ≡ bit n a * 2 ^ n + a % 2 ^ n =
    ap (λ (k : ℕ). a % 2 ^ k) (sym (one-add n)) ∙ unfold bit in mod-pow-add a 1 n in
    rw (e, plus-zero (bit n a * 2 ^ n) (a % 2 ^ n), shift_zero (bit n a) n, low_zero n a)

-- so a byte, or any number, is zero where its bits are
byte-zero : (a : ℕ) → all_zero (bits_of_byte a) ≡ eqb a 0
unfolding bits_of_byte all_zero
byte-zero a = rw (low_zero 7 a, ← shift_zero (a / 2 ^ 7) 7, ← plus-zero (a / 2 ^ 7 * 2 ^ 7) (a % 2 ^ 7), split a 7)

zero_bits : (x : List ℕ) → all_zero (bits_of x) ≡ all_zero x
unfolding bits_of all_zero
zero_bits [] = refl
zero_bits (a ∷ x) = rw (zero-append (bits_of_byte a) (bits_of x), byte-zero a, zero_bits x)

-- the bits from a byte on
bits-drop : (p : List ℕ) (n o : ℕ) → n ≤ length p → drop (8 * n + o) (bits_of p) ≡ drop o (bits_of (drop n p))
bits-drop p n o h =
    let e : length (bits_of (take n p)) ≡ 8 * n = omega (arith, length-bits (take n p), length-take-le n p h) in
    ap (λ (x : List ℕ). drop (8 * n + o) (bits_of x)) (sym (take-append-drop n p))
    ∙ rw (bits-append (take n p) (drop n p), ← e) (drop-append-add (bits_of (take n p)) (bits_of (drop n p)) o)

-- zeros from a byte on, and from a bit of a byte on
pub zero_from_byte : (p : List ℕ) (n : ℕ) → n ≤ length p → all_zero (drop (8 * n + 0) (bits_of p)) ≡ all_zero (drop n p)
zero_from_byte p n h = ap all_zero (bits-drop p n 0 h) ∙ zero_bits (drop n p)

pub zero_from_bit : (p : List ℕ) (n o : ℕ) → n < length p → o ≤ 7
    → all_zero (drop (8 * n + o) (bits_of p)) ≡ all_zero (drop o (bits_of_byte (get_or p n 0))) && all_zero (drop (suc n) p)
unfolding bits_of
zero_from_bit p n o h l =
    let b : ℕ = get_or p n 0 in
    let r : List ℕ = bits_of (drop (suc n) p) in
    rw (
      bits-drop p n o (omega arith),
      drop-cons p n 0 h,
      drop-append-le o (bits_of_byte b) r (unfold bits_of_byte low_bits in omega arith),
      zero-append (drop o (bits_of_byte b)) r,
      zero_bits (drop (suc n) p),
    )

-- the lowest bits without the first of them, so the bits after the odd ones are zero in what feeding keeps of a byte
pub low_drop : (m n j a : ℕ) → m ≡ n - j → drop j (low_bits n a) ≡ low_bits m a
unfolding low_bits
low_drop m n zero a e = let d : m ≡ n = omega arith in rw d
low_drop m zero (suc j) a e = let d : m ≡ 0 = omega arith in rw d
low_drop m (suc n) (suc j) a e = low_drop m n j a (omega arith)

pub high_low : (o b : ℕ) → o ≤ 7 → all_zero (drop o (bits_of_byte (high_bits o b))) ≡ true
unfolding high_bits bits_of_byte
high_low zero b h = unfold all_zero low_bits bit in refl
high_low (suc o) b h =
    let k : ℕ = 7 - o in
    let a : ℕ = b / 2 ^ k * 2 ^ k in
    rw (low_drop k 7 o a refl, low_zero k a, mul-mod_left (b / 2 ^ k) (2 ^ k))
