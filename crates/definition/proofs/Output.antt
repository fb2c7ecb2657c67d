-- Longer output (3.3 and 5 of the source; document 02, Q-2): at one code shorter output is the beginning of longer output, the digests are the
-- output of 7, 8, 12 and 16 words, and the blank rounds are the words divided by eight, rounded up, as the count that travels with them says.
-- Assumes nothing.
use mathlib.Core.Path.{◌≡◌, refl, sym, ap, ◌∙◌}
use mathlib.Core.List.{List, ◌++◌, append_assoc}
use Prim.Native.Nat.{ℕ, zero, suc, ◌+◌, ◌-◌, ◌*◌, ◌^◌, ◌<◌, ◌≤◌}
use native.Mathlib.Nat.{zero-add, suc-add, mod-eq_of_lt}
use native.Mathlib.Omega.{arith}
use lib.ListN.{length, take, replicate, length-replicate}
use lib.Seq.{take-take, take-append-le}
use Rattle.definition.specs.declared.Block.{Block}
use Rattle.definition.specs.declared.State.{State}
use Rattle.definition.specs.declared.Width.{Width}
use Rattle.definition.specs.Word.{bytes_of_all}
use Rattle.definition.specs.Block.{zero_block, xor_all, words_of}
use Rattle.definition.specs.Round.{round, chain}
use Rattle.definition.specs.Width.{width_at}
use Rattle.definition.specs.Padding.{bits_of}
use Rattle.definition.specs.Final.{outputs, final_rounds, final}
use Rattle.definition.specs.Counted.{counted_chain}
use Rattle.definition.specs.Luffa.{words_at, output_of, output_of_bits, luffa_output, luffa_of_bits, luffa}
use Rattle.definition.proofs.Chain.{counted-rounds}
use Rattle.definition.proofs.Final.{blank, length-outputs, length-final}
use Rattle.definition.proofs.Word.{length-bytes, bytes_take}

-- "a round before each": what some rounds give comes first, and then what the rounds after them give
outputs_more : (w : Width) (a b : ℕ) (h : List Block) → outputs w (a + b) h ≡ outputs w a h ++ outputs w b (blank w a h)
unfolding outputs blank chain
outputs_more w zero b h = rw (zero-add b)
outputs_more w (suc a) b h =
    let h' : List Block = round w h zero_block in
    rw (suc-add a b)
    (ap (λ (x : List ℕ). words_of (xor_all h') ++ x) (outputs_more w a b h')
    ∙ sym (append_assoc (words_of (xor_all h')) (outputs w a h') (outputs w b (blank w a h'))))

outputs-front : (w : Width) (n a b : ℕ) (h : List Block) → n ≤ a * 8 → a ≤ b → take n (outputs w b h) ≡ take n (outputs w a h)
outputs-front w n a b h e l =
    let c : b ≡ a + (b - a) = omega arith in
    rw c
    (ap (take n) (outputs_more w a (b - a) h)
    ∙ take-append-le n (outputs w a h) (outputs w (b - a) (blank w a h)) (omega (arith, length-outputs w a h)))

pub shorter_final : (w : Width) (m n : ℕ) (h : List Block) → m ≤ n → take m (final w n h) ≡ final w m h
unfolding final final_rounds
shorter_final w m n h l = take-take m n _ l ∙ outputs-front w m _ _ h (omega arith) (omega arith)

-- "At one code, shorter output is the beginning of longer output": from any state, and of any message
pub shorter_output : (code m n : ℕ) (h : List Block) → m ≤ n → take (4 * m) (output_of code n h) ≡ output_of code m h
unfolding output_of
shorter_output code m n h l =
    bytes_take m (final (width_at code) n h) (omega (arith, length-final (width_at code) n h))
    ∙ ap bytes_of_all (shorter_final (width_at code) m n h l)

pub shorter_luffa : (code m n : ℕ) (x : List ℕ) → m ≤ n → take (4 * m) (luffa_output code n x) ≡ luffa_output code m x
unfolding luffa_output output_of_bits
shorter_luffa code m n x l = shorter_output code m n _ l

-- four bytes a word
pub length-output : (code words : ℕ) (h : List Block) → length (output_of code words h) ≡ 4 * words
unfolding output_of
length-output code words h = length-bytes _ ∙ ap (λ (n : ℕ). 4 * n) (length-final (width_at code) words h)

-- "The four digests become uses of it"
pub four_digests : (m : List ℕ)
    → (luffa 1 m ≡ luffa_output 1 7 (bits_of m)) × (luffa 2 m ≡ luffa_output 2 8 (bits_of m))
    × (luffa 3 m ≡ luffa_output 3 12 (bits_of m)) × (luffa 4 m ≡ luffa_output 4 16 (bits_of m))
unfolding luffa luffa_of_bits words_at
four_digests m = (refl, refl, refl, refl)

-- codes 1 and 2 have one w: the digest of 224 bits is the first 28 bytes of that of 256 bits
pub first28 : (m : List ℕ) → luffa 1 m ≡ take 28 (luffa 2 m)
unfolding luffa luffa_of_bits luffa_output output_of_bits output_of width_at words_at
first28 m = sym (shorter_luffa 2 7 8 (bits_of m) (omega arith))

-- "the words divided by eight, rounded up": rounds enough for the words, and none more
pub rounded_up : (words : ℕ) → (words ≤ 8 * final_rounds words) × (8 * final_rounds words < words + 8)
unfolding final_rounds
rounded_up words = (omega arith, omega arith)

-- document 01: "F = 1 at codes 1 and 2, F = 2 at codes 3 and 4", read from this count; and the most words, 64
pub digest-rounds : (final_rounds (words_at 1) ≡ 1) × (final_rounds (words_at 2) ≡ 1) × (final_rounds (words_at 3) ≡ 2) × (final_rounds (words_at 4) ≡ 2) × (final_rounds 64 ≡ 8)
unfolding final_rounds words_at
digest-rounds = (refl, refl, refl, refl, refl)

-- "report its rounds": a count that begins with the final stage and goes up by one in each round
pub final-counted : (w : Width) (s : State) (words : ℕ) → words < 2 ^ 64
    → (counted_chain w (record { state = s; rounds = 0 }) (replicate (final_rounds words) zero_block)).rounds ≡ final_rounds words
final-counted w s words h =
    counted-rounds w (record { state = s; rounds = 0 }) (replicate (final_rounds words) zero_block) (omega arith)
    ∙ rw (zero-add (length (replicate (final_rounds words) zero_block)), length-replicate (final_rounds words) zero_block)
    (mod-eq_of_lt (unfold final_rounds in omega arith))
