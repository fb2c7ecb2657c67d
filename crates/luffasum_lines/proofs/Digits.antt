-- A number in decimal: its digits, the last first, and that they read back as the number; and bytes in hexadecimal.
-- Assumes nothing.
use mathlib.Core.Path.{◌≡◌, refl, sym}
use mathlib.Core.List.{List, [], ◌∷◌, ◌++◌}
use Prim.Native.Nat.{ℕ, zero, suc, ◌+◌, ◌-◌, ◌*◌, ◌/◌, ◌%◌, ◌^◌, ◌<◌, ◌≤◌}
use native.Mathlib.Decide.{dec_lt}
use native.Mathlib.Nat.{pow-suc}
use native.Mathlib.Omega.{arith}
use borrow.Author.Tests.{lt-ltb, le-ltb}
use lib.ListN.{length, get_or, take, drop, set}
use lib.Seq.{set_split, drop_at, length-take-le}
use Rattle.luffasum_lines.specs.Line.{digit, decimal_before, decimal, hexadecimal}

-- one digit, and a digit with others before it
last_digit : (k n : ℕ) (x : List ℕ) → n < 10 → decimal_before (suc k) n x ≡ digit n ∷ x
unfolding decimal_before
last_digit k n x h = rw (lt-ltb n 10 h)

next-digit : (k n : ℕ) (x : List ℕ) → 10 ≤ n → decimal_before (suc k) n x ≡ decimal_before k (n / 10) (digit (n % 10) ∷ x)
unfolding decimal_before
next-digit k n x h = rw (le-ltb n 10 h)

-- a store in front of the last elements of a list
drop-set : (t : List ℕ) (j d : ℕ) → j < length t → drop j (set t j d) ≡ d ∷ drop (suc j) t
drop-set t j d h = rw (set_split t j d h) (drop_at (take j t) (d ∷ drop (suc j) t) j (length-take-le j t (omega arith)))

-- the next digit stored before those from place i on, and the last one
pub store_next : (i n : ℕ) (t : List ℕ) → 1 ≤ i → i ≤ length t → 10 ≤ n
    → decimal_before (i - 1) (n / 10) (drop (i - 1) (set t (i - 1) (digit (n % 10)))) ≡ decimal_before i n (drop i t)
store_next zero n t p l h = absurd (omega arith)
store_next (suc j) n t p l h =
    let e : suc j - 1 ≡ j = omega arith in
    rw (e, drop-set t j (digit (n % 10)) l) (sym (next-digit j n (drop (suc j) t) h))

pub store_last : (i n : ℕ) (t : List ℕ) → 1 ≤ i → i ≤ length t → n < 10
    → drop (i - 1) (set t (i - 1) (digit n)) ≡ decimal_before i n (drop i t)
store_last zero n t p l h = absurd (omega arith)
store_last (suc j) n t p l h =
    let e : suc j - 1 ≡ j = omega arith in
    rw (e, drop-set t j (digit n) l) (sym (last_digit j n (drop (suc j) t) h))

-- a number of more than one digit has one less without the last
pub shorter : (j n : ℕ) → 10 ≤ n → n < 10 ^ suc j → (1 ≤ j) × (n / 10 < 10 ^ j)
shorter zero n h l = absurd (omega arith)
shorter (suc j) n h l =
    let m : n < 10 ^ suc j * 10 = rw (pow-suc 10 (suc j)) at l in
    (omega arith, omega arith)

-- a number has 20 digits at most
length_before : (k n : ℕ) (x : List ℕ) → length (decimal_before k n x) ≤ k + length x
unfolding decimal_before
length_before zero n x = omega arith
length_before (suc k) n x =
    elim (dec_lt n 10) [
      | yes h ↦ rw (lt-ltb n 10 h) (omega arith)
      | no h ↦ rw (le-ltb n 10 (omega arith)) (omega (arith, length_before k (n / 10) (digit (n % 10) ∷ x)))
    ]

pub length-decimal : (n : ℕ) → length (decimal n) ≤ 20
unfolding decimal
length-decimal n = length_before 20 n []

-- the number that decimal digits stand for, read behind n
unfoldable pub read_behind : (n : ℕ) → List ℕ → ℕ
read_behind n [] = n
read_behind n (d ∷ ds) = read_behind (n * 10 + (d - 48)) ds

digit_value : (n : ℕ) → n < 10 → digit n ≡ 48 + n
unfolding digit
digit_value n h = rw (lt-ltb n 10 h)

read_last : (k n : ℕ) (x : List ℕ) → n < 10 → read_behind 0 (decimal_before (suc k) n x) ≡ read_behind n x
unfolding read_behind
read_last k n x h =
    let e : 0 * 10 + (digit n - 48) ≡ n = omega (arith, digit_value n h) in
    rw (last_digit k n x h, e)

read-before : (k n : ℕ) (x : List ℕ) → n < 10 ^ suc k → read_behind 0 (decimal_before (suc k) n x) ≡ read_behind n x
unfolding read_behind
read-before zero n x l = read_last 0 n x l
read-before (suc k) n x l =
    elim (dec_lt n 10) [
      | yes h ↦ read_last (suc k) n x h
      | no h ↦
          let e : n / 10 * 10 + (digit (n % 10) - 48) ≡ n = omega (arith, digit_value (n % 10) (omega arith)) in
          let s = shorter (suc k) n (omega arith) l in
          rw (next-digit (suc k) n x (omega arith), read-before k (n / 10) (digit (n % 10) ∷ x) s.1, e)
    ]

-- the count that is printed reads back as the count, for every count of 64 bits
pub reads_back : (n : ℕ) → n < 2 ^ 64 → read_behind 0 (decimal n) ≡ n
unfolding decimal read_behind
reads_back n h = read-before 19 n [] (omega arith)

-- and has no zero in front, unless it is 0
front-zero : (k n : ℕ) (x : List ℕ) → n < 10 ^ suc k → get_or (decimal_before (suc k) n x) 0 0 ≡ digit 0 → n ≡ 0
unfolding digit
front-zero zero n x l e = omega (arith, rw (last_digit 0 n x l) at e, digit_value n l)
front-zero (suc k) n x l e =
    elim (dec_lt n 10) [
      | yes h ↦ omega (arith, rw (last_digit (suc k) n x h) at e, digit_value n h)
      | no h ↦
          let s = shorter (suc k) n (omega arith) l in
          omega (arith, front-zero k (n / 10) (digit (n % 10) ∷ x) s.1 (rw (next-digit (suc k) n x (omega arith)) at e))
    ]

pub no_zero_before : (n : ℕ) → n < 2 ^ 64 → get_or (decimal n) 0 0 ≡ digit 0 → n ≡ 0
unfolding decimal
no_zero_before n h e = front-zero 19 n [] (omega arith) e

-- bytes in hexadecimal: their digits, and one byte more
pub length-hexadecimal : (bs : List ℕ) → length (hexadecimal bs) ≡ 2 * length bs
unfolding hexadecimal
length-hexadecimal [] = refl
length-hexadecimal (b ∷ bs) = omega (arith, length-hexadecimal bs)

pub hexadecimal_snoc : (bs : List ℕ) (b : ℕ) → hexadecimal (bs ++ b ∷ []) ≡ hexadecimal bs ++ digit (b / 16) ∷ digit (b % 16) ∷ []
unfolding hexadecimal
hexadecimal_snoc [] b = refl
hexadecimal_snoc (a ∷ bs) b = rw (hexadecimal_snoc bs b)
