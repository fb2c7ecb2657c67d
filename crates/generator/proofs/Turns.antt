-- The generator as the machine's operations give it: a bit taken from 0 is a mask, the exchange is a rotation, and every application leaves a number
-- of 64 bits.
-- Assumes nothing.
use Rattle.std.proofs.Common.{◌≡◌, ℕ, zero, suc, ◌+◌, ◌-◌, ◌*◌, ◌/◌, ◌%◌, ◌^◌, ◌<◌, ap, ◌∙◌, add-zero, mod-eq_of_lt, one-mul, zero-mul, arith}
use native.Mathlib.Nat.{mod_self, mul-mod_left}
use lib.Bits.{bit_and, bit_or, and_zero_l, and_comm, and_mask, or_shifted}
use lib.Pow.{mod-pow-add, shl-shr}
use Rattle.definition.specs.Constant.{exchanged, initial}
use Rattle.definition.proofs.Constant.{still_64}
use Rattle.generator.specs.Turns.{applied}

-- a bit taken from 0 is a mask, at any width
pub masks_out : (w b m : ℕ) → b < 2 → m < 2 ^ w → bit_and ((0 + (2 ^ w - b)) % 2 ^ w) m ≡ b * m
masks_out w zero m hb hm =
    let z : (0 + (2 ^ w - 0)) % 2 ^ w ≡ 0 = ap (λ n. n % 2 ^ w) (omega arith) ∙ mod_self (2 ^ w) in
    rw (z, zero-mul m) (and_zero_l m)
masks_out w (suc zero) m hb hm =
    let l : 0 + (2 ^ w - 1) < 2 ^ w = omega (arith, hm) in
    let f : 0 + (2 ^ w - 1) ≡ 2 ^ w - 1 = omega arith in
    rw (mod-eq_of_lt l, f, one-mul m, and_comm (2 ^ w - 1) m, and_mask m w) (mod-eq_of_lt hm)
masks_out w (suc (suc b)) m hb hm = absurd (omega arith)

-- the exchange as a rotation
pub rotated : (t : ℕ) → t < 2 ^ 64 → bit_or (t * 2 ^ 32 % 2 ^ 64) (t / 2 ^ 32) ≡ exchanged t
unfolding exchanged
rotated t h =
    let e : t * 2 ^ 32 % 2 ^ 64 ≡ t % 2 ^ 32 * 2 ^ 32 = mod-pow-add (t * 2 ^ 32) 32 32 ∙ rw (shl-shr t 32, mul-mod_left t (2 ^ 32), add-zero) in
    rw e (or_shifted (t % 2 ^ 32) 32 (t / 2 ^ 32) (omega arith))

-- each start is a number of 64 bits, and so is all that the generator makes of it
pub initial_64 : (j : ℕ) → initial j < 2 ^ 64
unfolding initial
initial_64 zero = omega arith
initial_64 (suc zero) = omega arith
initial_64 (suc (suc zero)) = omega arith
initial_64 (suc (suc (suc zero))) = omega arith
initial_64 (suc (suc (suc (suc zero)))) = omega arith
initial_64 (suc (suc (suc (suc (suc j))))) = omega arith

pub applied_64 : (n t : ℕ) → t < 2 ^ 64 → applied n t < 2 ^ 64
unfolding applied
applied_64 zero t h = h
applied_64 (suc n) t h = still_64 (applied n t) (applied_64 n t h)
