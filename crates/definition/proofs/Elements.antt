-- A block of words is its 32 elements of the field of 3.2: its words are read back from them, and two blocks with the same elements are one.
-- Assumes nothing.
use mathlib.Core.Path.{◌≡◌, refl, sym, ap, ◌∙◌}
use Prim.Native.Nat.{ℕ, ◌^◌, ◌<◌}
use native.Mathlib.Omega.{arith}
use lib.ListN.{get_or}
use Rattle.definition.specs.declared.Block.{Block}
use Rattle.definition.specs.Word.{bit}
use Rattle.definition.specs.Block.{words_of}
use Rattle.definition.specs.Field.{element}
use Rattle.definition.proofs.Bits.{bit_lt, bit_of_bits, own_bits, from_bits-cong}
use Rattle.definition.proofs.Bounds.{Words}

-- bit k of element l is bit l of word k
pub element-bit : (b : Block) (k l : ℕ) → k < 8 → bit k (element l b) ≡ bit l (get_or (words_of b) k 0)
unfolding element
element-bit b k l h = bit_of_bits 8 k (λ k. bit l (get_or (words_of b) k 0)) (λ k. bit_lt l _) h

-- a block is its elements at the 32 bit positions
module _ (a b : Block) (ha : Words a) (hb : Words b) (e : (l : ℕ) → l < 32 → element l a ≡ element l b) where
  word_same : (k x y : ℕ) → k < 8 → x < 2 ^ 32 → y < 2 ^ 32 → get_or (words_of a) k 0 ≡ x → get_or (words_of b) k 0 ≡ y → x ≡ y
  word_same k x y h hx hy p q =
      sym (own_bits x hx)
      ∙ from_bits-cong 32 (λ l. bit l x) (λ l. bit l y)
      (λ l hl.
      ap (bit l) (sym p) ∙ sym (element-bit a k l h) ∙ ap (bit k) (e l hl) ∙ element-bit b k l h ∙ ap (bit l) q)
      ∙ own_bits y hy

  pub by_elements : a ≡ b
  by_elements =
      λ i.
      record {
        a0 = word_same 0 _ _ (omega arith) ha.w0 hb.w0 (unfold words_of in refl) (unfold words_of in refl) i;
        a1 = word_same 1 _ _ (omega arith) ha.w1 hb.w1 (unfold words_of in refl) (unfold words_of in refl) i;
        a2 = word_same 2 _ _ (omega arith) ha.w2 hb.w2 (unfold words_of in refl) (unfold words_of in refl) i;
        a3 = word_same 3 _ _ (omega arith) ha.w3 hb.w3 (unfold words_of in refl) (unfold words_of in refl) i;
        a4 = word_same 4 _ _ (omega arith) ha.w4 hb.w4 (unfold words_of in refl) (unfold words_of in refl) i;
        a5 = word_same 5 _ _ (omega arith) ha.w5 hb.w5 (unfold words_of in refl) (unfold words_of in refl) i;
        a6 = word_same 6 _ _ (omega arith) ha.w6 hb.w6 (unfold words_of in refl) (unfold words_of in refl) i;
        a7 = word_same 7 _ _ (omega arith) ha.w7 hb.w7 (unfold words_of in refl) (unfold words_of in refl) i;
      }
