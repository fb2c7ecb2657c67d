-- XOR of blocks is a commutative group in which each block is its own inverse, and doubling distributes over it: for all blocks.
-- Assumes nothing.
use mathlib.Core.Path.{◌≡◌, refl, sym, ap₂, ◌∙◌}
use Prim.Native.Nat.{ℕ, ◌+◌, ◌*◌, ◌/◌, ◌%◌, ◌<◌}
use native.Mathlib.Nat.{mod-lt, zero-lt-suc, div-add-mod'}
use lib.Arith.{bin_ind}
use lib.Bits.{bit_xor, xor_comm, xor_self, xor_shr, xor_mod}
use lib.Dec.{eqb, eqb→eq}
use mathlib.Core.Bool.{Bool}
use mathlib.Core.List.{List}
use lib.ListN.{get_or}
use Rattle.definition.specs.declared.Block.{Block}
use Rattle.definition.specs.Block.{◌⊕◌, zero_block}
use Rattle.definition.specs.Field.{double}
use Rattle.definition.proofs.Cases.{none, more, at_bits}

-- at one digit, by its eight cases
associates : List ℕ → Bool
associates bs =
    eqb (bit_xor (bit_xor (get_or bs 0 0) (get_or bs 1 0)) (get_or bs 2 0)) (bit_xor (get_or bs 0 0) (bit_xor (get_or bs 1 0) (get_or bs 2 0)))

digit : (a b c : ℕ) → bit_xor (bit_xor a b) c % 2 ≡ bit_xor a (bit_xor b c) % 2
unfolding associates
digit a b c =
    let two : 0 < 2 = zero-lt-suc 1 in
    let d : (x : ℕ) → x % 2 < 2 = λ x. mod-lt x two in
    rw (xor_mod (bit_xor a b) c 1, xor_mod a b 1, xor_mod a (bit_xor b c) 1, xor_mod b c 1)
    (eqb→eq _ _ (at_bits associates tt (more (d a) (more (d b) (more (d c) none)))))

halves : (n b c : ℕ) → bit_xor (bit_xor (n / 2) (b / 2)) (c / 2) ≡ bit_xor (n / 2) (bit_xor (b / 2) (c / 2))
    → bit_xor (bit_xor n b) c / 2 ≡ bit_xor n (bit_xor b c) / 2
halves n b c ih =
    rw (xor_shr (bit_xor n b) c 1, xor_shr n b 1, xor_shr n (bit_xor b c) 1, xor_shr b c 1) ih

pub word_assoc : (a b c : ℕ) → bit_xor (bit_xor a b) c ≡ bit_xor a (bit_xor b c)
word_assoc =
    bin_ind (λ (n : ℕ). (b c : ℕ) → bit_xor (bit_xor n b) c ≡ bit_xor n (bit_xor b c)) (λ b c. refl)
    (λ n ih b c.
    sym (div-add-mod' (bit_xor (bit_xor n b) c) 2)
    ∙ ap₂ (λ (x y : ℕ). x * 2 + y) (halves n b c (ih (b / 2) (c / 2))) (digit n b c)
    ∙ div-add-mod' (bit_xor n (bit_xor b c)) 2)

pub word_swap : (a b c d : ℕ) → bit_xor (bit_xor a b) (bit_xor c d) ≡ bit_xor (bit_xor a c) (bit_xor b d)
word_swap a b c d =
    cc (word_assoc a b (bit_xor c d), word_assoc b c d, xor_comm b c, word_assoc c b d, word_assoc a c (bit_xor b d))

-- a function of words at each word of three blocks, and a law of words at each word
on_words : (ℕ → ℕ → ℕ → ℕ) → Block → Block → Block → Block
on_words f a b c =
    record {
      a0 = f a.a0 b.a0 c.a0;
      a1 = f a.a1 b.a1 c.a1;
      a2 = f a.a2 b.a2 c.a2;
      a3 = f a.a3 b.a3 c.a3;
      a4 = f a.a4 b.a4 c.a4;
      a5 = f a.a5 b.a5 c.a5;
      a6 = f a.a6 b.a6 c.a6;
      a7 = f a.a7 b.a7 c.a7;
    }

at_words : (f g : ℕ → ℕ → ℕ → ℕ) → ((x y z : ℕ) → f x y z ≡ g x y z) → (a b c : Block) → on_words f a b c ≡ on_words g a b c
at_words f g e a b c = λ i. on_words (λ x y z. e x y z i) a b c

pub ⊕-assoc : (a b c : Block) → a ⊕ b ⊕ c ≡ a ⊕ (b ⊕ c)
unfolding ◌⊕◌ on_words
⊕-assoc = at_words (λ x y z. bit_xor (bit_xor x y) z) (λ x y z. bit_xor x (bit_xor y z)) word_assoc

pub ⊕-comm : (a b : Block) → a ⊕ b ≡ b ⊕ a
unfolding ◌⊕◌ on_words
⊕-comm a b = at_words (λ x y z. bit_xor x y) (λ x y z. bit_xor y x) (λ x y z. xor_comm x y) a b b

pub zero-⊕ : (a : Block) → zero_block ⊕ a ≡ a
unfolding ◌⊕◌
zero-⊕ a = refl

pub ⊕-zero : (a : Block) → a ⊕ zero_block ≡ a
⊕-zero a = ⊕-comm a zero_block ∙ zero-⊕ a

pub ⊕-self : (a : Block) → a ⊕ a ≡ zero_block
unfolding ◌⊕◌ on_words
⊕-self a = at_words (λ x y z. bit_xor x x) (λ x y z. 0) (λ x y z. xor_self x) a a a

pub ⊕-swap : (a b c d : Block) → (a ⊕ b) ⊕ (c ⊕ d) ≡ (a ⊕ c) ⊕ (b ⊕ d)
⊕-swap a b c d =
    cc (⊕-assoc a b (c ⊕ d), ⊕-assoc b c d, ⊕-comm b c, ⊕-assoc c b d, ⊕-assoc a c (b ⊕ d))

pub double-⊕ : (a b : Block) → double (a ⊕ b) ≡ double a ⊕ double b
unfolding ◌⊕◌ double
double-⊕ a b =
    rw (
      word_swap a.a0 b.a0 a.a7 b.a7,
      word_swap a.a2 b.a2 a.a7 b.a7,
      word_swap a.a3 b.a3 a.a7 b.a7,
    )
