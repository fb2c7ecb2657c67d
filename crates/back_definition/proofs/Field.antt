-- Dividing blocks by a constant of the field of 3.2: as two blocks of words are equal where their elements are, a constant is undone by another
-- where the checker finds it so at each of the 256 elements. Words stay words through XOR, doubling and such products.
-- Assumes nothing.
use mathlib.Core.Path.{◌≡◌, ap, ap₂, ◌∙◌}
use mathlib.Core.Bool.{Bool}
use Prim.Native.Nat.{ℕ, zero, suc, ◌/◌, ◌%◌, ◌^◌, ◌<◌}
use native.Mathlib.Nat.{pow-suc}
use native.Mathlib.Omega.{arith}
use lib.Bits.{bit_xor, xor_lt}
use lib.Dec.{T, eqb, eqb→eq}
use lib.Pow.{pow-lt}
use Rattle.definition.specs.declared.Block.{Block}
use Rattle.definition.specs.Block.{◌⊕◌, zero_block}
use Rattle.definition.specs.Field.{double, keep, times_to, times, element, product}
use Rattle.definition.proofs.Bounds.{Words}
use Rattle.definition.proofs.Cases.{every_below, at_below}
use Rattle.definition.proofs.Elements.{by_elements}
use Rattle.definition.proofs.Field.{element_lt, times-element, times_one, times-xor, times-twice}

-- words stay words
pub zero-words : Words zero_block
zero-words = omega arith

pub ⊕-words : (a b : Block) → Words a → Words b → Words (a ⊕ b)
unfolding ◌⊕◌
⊕-words a b h k =
    record {
      w0 = xor_lt 32 _ _ h.w0 k.w0;
      w1 = xor_lt 32 _ _ h.w1 k.w1;
      w2 = xor_lt 32 _ _ h.w2 k.w2;
      w3 = xor_lt 32 _ _ h.w3 k.w3;
      w4 = xor_lt 32 _ _ h.w4 k.w4;
      w5 = xor_lt 32 _ _ h.w5 k.w5;
      w6 = xor_lt 32 _ _ h.w6 k.w6;
      w7 = xor_lt 32 _ _ h.w7 k.w7;
    }

pub double-words : (a : Block) → Words a → Words (double a)
unfolding double
double-words a h =
    record {
      w0 = h.w7;
      w1 = xor_lt 32 _ _ h.w0 h.w7;
      w2 = h.w1;
      w3 = xor_lt 32 _ _ h.w2 h.w7;
      w4 = xor_lt 32 _ _ h.w3 h.w7;
      w5 = h.w4;
      w6 = h.w5;
      w7 = h.w6;
    }

keep-words : (c : ℕ) (b : Block) → Words b → Words (keep c b)
unfolding keep
keep-words zero b h = zero-words
keep-words (suc c) b h = h

times_to-words : (n c : ℕ) (b : Block) → Words b → Words (times_to n c b)
unfolding times_to
times_to-words zero c b h = zero-words
times_to-words (suc n) c b h = ⊕-words _ _ (keep-words (c % 2) b h) (double-words _ (times_to-words n (c / 2) b h))

pub times_words : (c : ℕ) (b : Block) → Words b → Words (times c b)
unfolding times
times_words = times_to-words 8

-- one constant undoes another: the checker's test at each element
unfoldable pub undoes : (c d : ℕ) → Bool
undoes c d = every_below 256 (λ e. eqb (product c (product d e)) e)

pub divided : (c d : ℕ) → T (undoes c d) → (b : Block) → Words b → times c (times d b) ≡ b
unfolding undoes
divided c d t b h =
    by_elements _ b (times_words c _ (times_words d b h)) h
    (λ l hl.
    times-element l c (times d b)
    ∙ ap (product c) (times-element l d b)
    ∙ eqb→eq _ _ (at_below 256 (λ e. eqb (product c (product d e)) e) t (element l b) (element_lt l b)))

-- 2^n times a block
unfoldable pub power : ℕ → Block → Block
power zero b = b
power (suc n) b = double (power n b)

times_power : (n : ℕ) (b : Block) → n < 8 → times (2 ^ n) b ≡ power n b
unfolding power
times_power zero b h = times_one b
times_power (suc n) b h = rw (pow-suc 2 n) (times-twice (2 ^ n) b (pow-lt {i = n} {j = 7} (omega arith)) ∙ ap double (times_power n b (omega arith)))

-- 2^n ^ 1 times a block
pub times_ring : (n : ℕ) (b : Block) → n < 8 → times (bit_xor 1 (2 ^ n)) b ≡ b ⊕ power n b
times_ring n b h = times-xor 1 (2 ^ n) b ∙ ap₂ ◌⊕◌ (times_one b) (times_power n b h)
