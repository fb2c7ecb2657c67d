-- The count of whole bytes in two words: a piece added, with the carry, is one number.
-- Assumes nothing.
use Rattle.std.proofs.Common.{◌≡◌, ℕ, ◌+◌, ◌*◌, ◌/◌, ◌%◌, ◌^◌, ◌<◌, sym, refl, ap, mod-eq_of_lt, arith, shr_lt}
use lib.Pow.{high, low}
use Rattle.hash_definition.specs.declared.Kept.{Kept}
use Rattle.definition.specs.Luffa.{limit_at}
use Rattle.hash_definition.specs.Record.{count_of, bytes_fed}
use Rattle.hash_pieces.specs.Short.{high_of, low_of}
use Rattle.hash_definition.proofs.Feeding.{limit_le}
use Rattle.hash_definition.proofs.Working.{under}

-- under Table 1's limit nothing is lost of the sum
pub high_sum : (k : Kept) (n : ℕ) → 8 * (bytes_fed k + n) < limit_at k.code → high_of k.high k.low n ≡ (bytes_fed k + n) / 2 ^ 64
unfolding high_of bytes_fed
high_sum k n h =
    mod-eq_of_lt (shr_lt {n = bytes_fed k + n} 64 64 (under (bytes_fed k + n) 0 (limit_at k.code) (2 ^ 128) (omega arith) (limit_le k.code)))

pub low_sum : (k : Kept) (n : ℕ) → low_of k.high k.low n ≡ (bytes_fed k + n) % 2 ^ 64
unfolding low_of bytes_fed
low_sum k n = refl

-- high and low word of a sum, by the low words' sum and its carry
pub both_words : (h l n carry sum : ℕ) → sum < 2 ^ 64 → carry * 2 ^ 64 + sum ≡ l + n
    → ((h + carry) % 2 ^ 64 ≡ high_of h l n) × (sum ≡ low_of h l n)
unfolding high_of low_of count_of
both_words h l n carry sum s e =
    let t : h * 2 ^ 64 + l + n ≡ (h + carry) * 2 ^ 64 + sum = omega arith in
    (rw t (ap (λ (a : ℕ). a % 2 ^ 64) (sym (high (h + carry) 64 s))), rw t (sym (low (h + carry) 64 s)))
