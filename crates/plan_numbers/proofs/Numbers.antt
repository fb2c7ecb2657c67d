-- A table with a bit more has a number more; and a table of zeros has none.
-- Assumes nothing.
use mathlib.Core.Path.{◌≡◌, refl}
use mathlib.Core.Bool.{false}
use mathlib.Core.List.{List}
use Prim.Native.Nat.{ℕ, zero, suc, ◌-◌, ◌+◌, ◌*◌, ◌/◌, ◌%◌, ◌^◌, ◌<◌}
use native.Mathlib.Nat.{one-mul, div-eq_of_lt, pow-suc, mul-mod_left, mod-lt, zero-lt-suc}
use native.Mathlib.Decide.{ℕ_discrete, dec_lt}
use native.Mathlib.Omega.{arith}
use borrow.Author.Tests.{eq-eqb, ne_eqb}
use lib.Bits.{bit_or, or_zero_r}
use lib.Dec.{eqb, eqb→eq, lit<}
use lib.ListN.{length, get_or, set, replicate}
use lib.Pow.{shl_exact, shl-shr, pow-lt, pow-add}
use lib.Seq.{get_or-set_same, get_or-set_other}
use Rattle.definition.specs.Word.{bit}
use Rattle.definition.proofs.Bits.{bit_lt, bit_or_lem, bit-zero}
use Rattle.definition.proofs.Cases.{at_below}
use Rattle.plan_numbers.specs.Numbers.{has, plus}

-- of a word that is one bit, that bit is one and every other zero
one_same : (s : ℕ) → bit s (1 * 2 ^ s) ≡ 1
unfolding bit
one_same s = rw (shl-shr 1 s)

one_other : (l s : ℕ) → (l ≡ s → ⊥) → bit l (1 * 2 ^ s) ≡ 0
unfolding bit
one_other l s h =
    elim (dec_lt s l) [
      | yes k ↦ rw (one-mul, div-eq_of_lt (pow-lt k))
      | no k ↦
          let e : s ≡ suc (s - l - 1) + l = omega arith in
          rw (one-mul, e, pow-add 2 (suc (s - l - 1)) l, shl-shr (2 ^ suc (s - l - 1)) l, pow-suc) (mul-mod_left (2 ^ (s - l - 1)) 2)
    ]

or_one : (b : ℕ) → b < 2 → bit_or b 1 ≡ 1
or_one b h = eqb→eq (bit_or b 1) 1 (at_below 2 (λ b. eqb (bit_or b 1) 1) tt b h)

pub set_adds : (k : ℕ) (t : List ℕ) → k / 64 < length t → (j : ℕ)
    → has (set t (k / 64) (bit_or (get_or t (k / 64) 0) (1 * 2 ^ (k % 64) % 2 ^ 64))) j ≡ plus k (has t) j
unfolding has plus
set_adds k t h j =
    let m : k % 64 < 64 = mod-lt k (zero-lt-suc 63) in
    let one : 1 * 2 ^ (k % 64) % 2 ^ 64 ≡ 1 * 2 ^ (k % 64) = shl_exact 1 (k % 64) 64 (lit< tt) (omega arith) in
    elim (ℕ_discrete (j / 64) (k / 64)) [
      | yes e ↦ rw (one, e, get_or-set_same, bit_or_lem) (elim (ℕ_discrete (j % 64) (k % 64)) [
        | yes d ↦
            let n : k ≡ j = omega arith in
            rw (d, one_same, or_one (bit (k % 64) (get_or t (k / 64) 0)) (bit_lt (k % 64) (get_or t (k / 64) 0)), eq-eqb k j n)
        | no d ↦ rw (one_other (j % 64) (k % 64) d, or_zero_r, ne_eqb k j (λ n. d (omega arith)))
      ])
      | no e ↦ rw (get_or-set_other t (k / 64) (j / 64) _ 0 e, ne_eqb k j (λ n. e (omega arith)))
    ]

-- zeros, and a table of them, for callers: an empty set
pub none_at : (n i : ℕ) → get_or {A = ℕ} (replicate n 0) i 0 ≡ 0
none_at zero i = refl
none_at (suc n) zero = refl
none_at (suc n) (suc i) = none_at n i

pub none_has : (n k : ℕ) → has (replicate n 0) k ≡ false
unfolding has
none_has n k = rw (none_at n (k / 64), bit-zero)
