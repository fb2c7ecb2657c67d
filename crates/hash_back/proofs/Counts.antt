-- The count of whole bytes in two words, judged and made 32 less.
-- Assumes nothing.
use Rattle.std.proofs.Common.{◌≡◌, ℕ, ◌+◌, ◌-◌, ◌*◌, ◌/◌, ◌%◌, ◌^◌, ◌<◌, ◌≤◌, ◌&&◌, eqb, ltb, sym, add-mul, zero-add, zero-mul, arith, le-ltb, lt-ltb, ne_eqb}
use native.Mathlib.Decide.{ℕ_discrete, dec_lt}
use mir.Val.{bool_byte}
use lib.Pow.{high, low}
use Rattle.hash_definition.specs.Record.{count_of}

-- the low word alone says how many bytes are pending
pub pending_low : (h l : ℕ) → count_of h l % 32 ≡ l % 32
unfolding count_of
pending_low h l = omega arith

-- a count under 32 has no high word
pub under_32 : (h l : ℕ) → eqb h 0 && ltb l 32 ≡ ltb (count_of h l) 32
unfolding count_of
under_32 h l =
    elim (ℕ_discrete h 0) [
      | yes e ↦ rw (e, zero-mul (2 ^ 64), zero-add l)
      | no e ↦ rw (ne_eqb h 0 e) (sym (le-ltb (h * 2 ^ 64 + l) 32 (omega arith)))
    ]

-- the low word less 32, with what it borrows
borrowed : (l r : ℕ) → l < 2 ^ 64 → r < 2 ^ 64 → (r + 32) % 2 ^ 64 ≡ l → bool_byte (ltb l 32) * 2 ^ 64 + l ≡ r + 32
borrowed l r hl hr e =
    elim (dec_lt l 32) [
      | yes k ↦ rw (lt-ltb l 32 k) (omega arith)
      | no k ↦ rw (le-ltb l 32 (omega arith)) (omega arith)
    ]

-- and the high word
some : (h l : ℕ) → l < 32 → 32 ≤ h * 2 ^ 64 + l → 0 < h
some h l k n = omega arith

one_less : (h g : ℕ) → 0 < h → g < 2 ^ 64 → (g + 1) % 2 ^ 64 ≡ h → g + 1 ≡ h
one_less h g k hg e = omega arith

no_less : (h g : ℕ) → g < 2 ^ 64 → (g + 0) % 2 ^ 64 ≡ h → g + 0 ≡ h
no_less h g hg e = omega arith

lent : (h l g : ℕ) → g < 2 ^ 64 → 32 ≤ count_of h l → (g + bool_byte (ltb l 32)) % 2 ^ 64 ≡ h → g + bool_byte (ltb l 32) ≡ h
unfolding count_of
lent h l g hg n e =
    elim (dec_lt l 32) [
      | yes k ↦ rw (lt-ltb l 32 k) (one_less h g (some h l k n) hg (rw (lt-ltb l 32 k) at e))
      | no k ↦ let m : 32 ≤ l = omega arith in rw (le-ltb l 32 m) (no_less h g hg (rw (le-ltb l 32 m) at e))
    ]

-- one number of both, without 2^64 itself
joined : (b h l g r t : ℕ) → b * t + l ≡ r + 32 → g + b ≡ h → h * t + l - 32 ≡ g * t + r
joined b h l g r t p q =
    let e : h * t ≡ g * t + b * t = rw (← q) (add-mul g b t) in
    omega arith

-- both words of a count 32 less
pub fewer : (h l g r : ℕ) → l < 2 ^ 64 → g < 2 ^ 64 → r < 2 ^ 64 → 32 ≤ count_of h l → (g + bool_byte (ltb l 32)) % 2 ^ 64 ≡ h → (r + 32) % 2 ^ 64 ≡ l
    → (g ≡ (count_of h l - 32) / 2 ^ 64) × (r ≡ (count_of h l - 32) % 2 ^ 64)
unfolding count_of
fewer h l g r hl hg hr n e f =
    let d : h * 2 ^ 64 + l - 32 ≡ g * 2 ^ 64 + r = joined _ h l g r (2 ^ 64) (borrowed l r hl hr f) (lent h l g hg n e) in
    (rw d (sym (high g 64 hr)), rw d (sym (low g 64 hr)))
