-- The words of a state stay words of 32 bits: after a step, a round and a chain of rounds.
-- Assumes nothing.
use mathlib.Core.List.{List, [], ◌∷◌}
use Prim.Native.Nat.{ℕ, zero, suc, ◌+◌, ◌-◌, ◌*◌, ◌/◌, ◌%◌, ◌^◌, ◌<◌, ◌≤◌}
use native.Mathlib.Nat.{mod-lt, lt_of_le_of_lt}
use native.Mathlib.Omega.{arith}
use lib.Bits.{bit_xor, or_lt, xor_lt}
use lib.ListN.{length, get_or}
use lib.Pow.{pow_pos, shr_le}
use Rattle.definition.specs.declared.Block.{Block}
use Rattle.definition.specs.declared.Pair.{Pair}
use Rattle.definition.specs.declared.Width.{Width}
use Rattle.definition.specs.declared.Width.TheVariants.{W3, W4, W5}
use Rattle.definition.specs.Word.{bit, rotl}
use Rattle.definition.specs.Block.{zero_block, words_of, words_of_all}
use Rattle.definition.specs.SubCrumb.{S, sbox_input, sub_word, sub_crumb}
use Rattle.definition.specs.MixWord.{mix_word}
use Rattle.definition.specs.Constant.{constants_from, constants}
use Rattle.definition.specs.Permutation.{on_halves, on_pairs, sub_crumbs, mix_words, add_constant, step, steps, permute}
use Rattle.definition.specs.Injection.{inject}
use Rattle.definition.specs.Round.{permute_from, round, chain}
use Rattle.definition.specs.Width.{block_count}
use Rattle.definition.specs.Start.{starting_variables, start}
use Rattle.definition.specs.State.{five, state_of}
use Rattle.definition.specs.Buffer.{Every}
use Rattle.definition.proofs.Every.{every_at}
use Rattle.definition.proofs.Bits.{bit_lt, from_bits-lt}
use Rattle.definition.proofs.Chain.{length-inject, count_le}
use Rattle.definition.proofs.Computed.{everything}

-- the eight words of a block are words of 32 bits
pub record Words (b : Block) : Type 0 where
  pub w0 : b.a0 < 2 ^ 32
  pub w1 : b.a1 < 2 ^ 32
  pub w2 : b.a2 < 2 ^ 32
  pub w3 : b.a3 < 2 ^ 32
  pub w4 : b.a4 < 2 ^ 32
  pub w5 : b.a5 < 2 ^ 32
  pub w6 : b.a6 < 2 ^ 32
  pub w7 : b.a7 < 2 ^ 32

-- and so those of each block of a list
abbrev pub AllWords : List Block → Type 0
AllWords = Every Words

-- both words of a pair of constants
pub record PairWords (c : Pair) : Type 0 where
  pub left_word : c.left < 2 ^ 32
  pub right_word : c.right < 2 ^ 32

-- a word rotated is a word
pub rotl_lt : (n a : ℕ) → a < 2 ^ 32 → rotl n a < 2 ^ 32
unfolding rotl
rotl_lt n a h =
    or_lt 32 (a * 2 ^ n % 2 ^ 32) (a / 2 ^ (32 - n)) (mod-lt (a * 2 ^ n) (pow_pos 32)) (lt_of_le_of_lt (shr_le a (32 - n)) h)

-- SubCrumb gives words, whatever it is given
sub_word-lt : (k a0 a1 a2 a3 : ℕ) → sub_word k a0 a1 a2 a3 < 2 ^ 32
unfolding sub_word
sub_word-lt k a0 a1 a2 a3 = from_bits-lt 32 (λ l. bit k (S (sbox_input a0 a1 a2 a3 l))) (λ l. bit_lt k (S (sbox_input a0 a1 a2 a3 l)))

pub sub_words : (a : Block) → Words (sub_crumbs a)
unfolding sub_crumbs on_halves sub_crumb
sub_words a = search sub_word-lt

-- MixWord gives words from words
mix_words_lem : (x0 x4 : ℕ) → x0 < 2 ^ 32 → x4 < 2 ^ 32 → PairWords (mix_word x0 x4)
unfolding mix_word
mix_words_lem x0 x4 h0 h4 =
    let y4 : ℕ = bit_xor x4 x0 in
    let k4 : y4 < 2 ^ 32 = xor_lt 32 x4 x0 h4 h0 in
    let y0 : ℕ = bit_xor (rotl 2 x0) y4 in
    let k0 : y0 < 2 ^ 32 = xor_lt 32 (rotl 2 x0) y4 (rotl_lt 2 x0 h0) k4 in
    let z4 : ℕ = bit_xor (rotl 14 y4) y0 in
    let l4 : z4 < 2 ^ 32 = xor_lt 32 (rotl 14 y4) y0 (rotl_lt 14 y4 k4) k0 in
    record { left_word = xor_lt 32 (rotl 10 y0) z4 (rotl_lt 10 y0 k0) l4; right_word = rotl_lt 1 z4 l4 }

-- what gives words from two words gives them from a block's four pairs
pub pairs-words : (f : (x0 x4 : ℕ) → Pair) → ((x0 x4 : ℕ) → x0 < 2 ^ 32 → x4 < 2 ^ 32 → PairWords (f x0 x4)) → (x : Block) → Words x → Words (on_pairs f x)
unfolding on_pairs
pairs-words f k x h =
    omega (
      arith,
      k x.a0 x.a4 h.w0 h.w4,
      k x.a1 x.a5 h.w1 h.w5,
      k x.a2 x.a6 h.w2 h.w6,
      k x.a3 x.a7 h.w3 h.w7,
    )

mixed_words : (x : Block) → Words x → Words (mix_words x)
unfolding mix_words
mixed_words = pairs-words mix_word mix_words_lem

pub add_words : (c : Pair) (y : Block) → PairWords c → Words y → Words (add_constant c y)
unfolding add_constant
add_words c y k h = omega (arith, xor_lt 32 y.a0 c.left h.w0 k.left_word, xor_lt 32 y.a4 c.right h.w4 k.right_word)

-- a step with constants that are words gives words, from any block
pub step_words : (c : Pair) (a : Block) → PairWords c → Words (step c a)
unfolding step
step_words c a k = add_words c (mix_words (sub_crumbs a)) k (mixed_words (sub_crumbs a) (sub_words a))

-- the constants of the five blocks are words
pub constants-words : (j : ℕ) → j < 5 → Every PairWords (constants j)
unfolding everything
constants-words zero h = omega arith
constants-words (suc zero) h = omega arith
constants-words (suc (suc zero)) h = omega arith
constants-words (suc (suc (suc zero))) h = omega arith
constants-words (suc (suc (suc (suc zero)))) h = omega arith
constants-words (suc (suc (suc (suc (suc j))))) h = absurd (omega arith)

-- one step at least gives words, from any block
steps-words : (c : Pair) (cs : List Pair) (a : Block) → Every PairWords (c ∷ cs) → Words (steps (c ∷ cs) a)
unfolding steps
steps-words c [] a k = step_words c a k.0
steps-words c (d ∷ cs) a k = steps-words d cs (step c a) k.1

-- Q_j gives words, from any block
permute-words : (j : ℕ) (b : Block) → j < 5 → Words (permute j b)
unfolding permute constants constants_from
permute-words j b h = steps-words _ _ _ (constants-words j h)

permuted_words : (j : ℕ) (xs : List Block) → j + length xs ≤ 5 → AllWords (permute_from j xs)
unfolding permute_from
permuted_words j [] h = tt
permuted_words j (x ∷ xs) h = (permute-words j x (omega arith), permuted_words (suc j) xs (omega arith))

-- a round gives words, from any blocks
pub round-words : (w : Width) (h : List Block) (m : Block) → AllWords (round w h m)
unfolding round
round-words w h m = permuted_words 0 (inject w h m) (omega (arith, length-inject w h m, count_le w))

-- a chain of rounds gives words from words
pub chain-words : (w : Width) (h ms : List Block) → AllWords h → AllWords (chain w h ms)
unfolding chain
chain-words w h [] k = k
chain-words w h (m ∷ ms) k = chain-words w (round w h m) ms (round-words w h m)

-- the starting variables are words
pub start-words : (w : Width) → AllWords (start w)
unfolding start starting_variables block_count
start-words W3 = omega arith
start-words W4 = omega arith
start-words W5 = omega arith

-- a state's blocks are words, those that stand for zero too
pub five-words : (h : List Block) → AllWords h → AllWords (five (state_of h))
unfolding five state_of
five-words h k = (at 0, (at 1, (at 2, (at 3, (at 4, tt)))))
  where
    at : (j : ℕ) → Words (get_or h j zero_block)
    at = every_at Words h zero_block (omega arith) k

-- each word of a list of blocks
every_word : (bs : List Block) → AllWords bs → Every (λ n. n < 2 ^ 32) (words_of_all bs)
unfolding words_of_all words_of
every_word [] k = tt
every_word (b ∷ bs) k =
    let h : Words b = k.0 in
    (h.w0, (h.w1, (h.w2, (h.w3, (h.w4, (h.w5, (h.w6, (h.w7, every_word bs k.1))))))))

pub word_in : (bs : List Block) → AllWords bs → (i : ℕ) → get_or (words_of_all bs) i 0 < 2 ^ 32
word_in bs k = every_at (λ n. n < 2 ^ 32) (words_of_all bs) 0 (pow_pos 32) (every_word bs k)
