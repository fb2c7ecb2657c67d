-- Table 1's limit in bits, met by a count of whole bytes and at most seven bits more: 2^61 bytes at codes up to 2, 2^61 times 2^64 at the others.
-- Assumes nothing.
use Rattle.std.proofs.Common.{◌≡◌, ℕ, zero, suc, ◌+◌, ◌*◌, ◌^◌, ◌<◌, ◌≤◌, ltb, leb, min, refl, arith}
use Rattle.definition.specs.Luffa.{limit_at}
use Rattle.hash_kept.proofs.Tests.{le_same}

pub limit_low : (code : ℕ) → code < 3 → limit_at code ≡ 2 ^ 64
unfolding limit_at
limit_low zero h = refl
limit_low (suc zero) h = refl
limit_low (suc (suc zero)) h = refl
limit_low (suc (suc (suc code))) h = absurd (omega arith)

pub limit_high : (code : ℕ) → 3 ≤ code → limit_at code ≡ 2 ^ 128
unfolding limit_at
limit_high zero h = absurd (omega arith)
limit_high (suc zero) h = absurd (omega arith)
limit_high (suc (suc zero)) h = absurd (omega arith)
limit_high (suc (suc (suc code))) h = refl

-- so many bytes are eight times as many bits, and odd bits never make up for a whole byte
module _ (count odd limit : ℕ) (o : odd ≤ 7) where
  pub under : ltb count limit ≡ ltb (8 * count + odd) (8 * limit)
  under = le_same (suc count) limit (suc (8 * count + odd)) (8 * limit) (λ k. omega arith) (λ k. omega arith)

  -- a count that stops at the most that is held, which is no less than the limit
  pub past : (most : ℕ) → limit ≤ most → leb limit (min count most) ≡ leb (8 * limit) (8 * count + odd)
  past most m = le_same limit (min count most) (8 * limit) (8 * count + odd) (λ k. omega arith) (λ k. omega arith)
