-- A rotation and an XOR undone.
-- Assumes nothing.
use mathlib.Core.Path.{◌≡◌, ap, ◌∙◌}
use Prim.Native.Nat.{ℕ, ◌+◌, ◌-◌, ◌%◌, ◌^◌, ◌<◌, ◌≤◌}
use native.Mathlib.Omega.{arith}
use lib.Bits.{bit_xor, xor_self, xor_zero_r}
use Rattle.definition.specs.Word.{bit, rotl}
use Rattle.definition.proofs.Bits.{bit-rotl, from_its_bits, own_bits}
use Rattle.definition.proofs.Bounds.{rotl_lt}
use Rattle.definition.proofs.Xor.{word_assoc}

pub xor-back : (a b : ℕ) → bit_xor (bit_xor a b) b ≡ a
xor-back a b = rw (word_assoc a b b, xor_self b) (xor_zero_r a)

-- rotated on by what is left of 32, a word has gone around
pub rotl-back : (n a : ℕ) → n ≤ 32 → a < 2 ^ 32 → rotl (32 - n) (rotl n a) ≡ a
rotl-back n a hn h =
    let k : rotl n a < 2 ^ 32 = rotl_lt n a h in
    from_its_bits 32 _ (λ l. bit l a) (rotl_lt (32 - n) (rotl n a) k)
    (λ l hl.
    let i : ((l + 32 - (32 - n)) % 32 + 32 - n) % 32 ≡ l = omega arith in
    bit-rotl (32 - n) l (rotl n a) (omega arith) hl k
    ∙ bit-rotl n ((l + 32 - (32 - n)) % 32) a hn (omega arith) h
    ∙ ap (λ (x : ℕ). bit x a) i)
    ∙ own_bits a h
