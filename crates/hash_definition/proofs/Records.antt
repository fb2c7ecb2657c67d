-- The byte form of the kept hash record: its length, and that writing a record and reading it back gives the record, either way round.
-- Assumes nothing.
use mathlib.Core.Path.{◌≡◌, refl, sym, ap, ap₂, ◌∙◌}
use mathlib.Core.Bool.{true}
use mathlib.Core.List.{List, [], ◌∷◌, ◌++◌, append_assoc, append-nil}
use Prim.Native.Nat.{ℕ, suc, ◌+◌, ◌*◌, ◌/◌, ◌%◌, ◌^◌, ◌<◌, ◌≤◌}
use native.Mathlib.Nat.{mod-eq_of_lt, add_assoc}
use native.Mathlib.Numerals.{towards_suc}
use native.Mathlib.Omega.{arith}
use lib.ListN.{length, get_or, take, drop, replicate, length-append, length-drop, take-append-drop, drop_of_length-le}
use lib.Pow as Pow
use lib.Seq.{take_at, drop_at, drop-cons, drop-drop, get_or-drop, length-take-le}
use Rattle.definition.specs.declared.Block.{Block}
use Rattle.hash_definition.specs.declared.Kept.{Kept}
use Rattle.definition.specs.Word.{word_of, bytes_of, bytes_of_all}
use Rattle.definition.specs.Block.{words_of, word_at, block_of, words_of_all}
use Rattle.definition.specs.State.{five}
use Rattle.hash_definition.specs.Record.{count_at, count_words, number_at, encode, block_in, decode, all_zero, well_formed}
use Rattle.hash_definition.specs.Said.{Typed}
use Rattle.definition.proofs.Word.{bytes-append, bytes_of_word, word_of_bytes}
use Rattle.hash_definition.proofs.Zeros.{zeros}
use Rattle.hash_definition.proofs.Formed.{Formed, formed}

-- the bytes of the count at a record's end
tail_of : Kept → List ℕ
tail_of k = bytes_of_all (count_words k.high ++ count_words k.low)

-- a record has 216 bytes
pub length-encode : (k : Kept) → length k.pending ≡ 32 → length (encode k) ≡ 216
unfolding encode five words_of_all words_of bytes_of_all bytes_of count_words
length-encode k e = omega (arith, length-append k.pending (bytes_of_all (count_words k.high ++ count_words k.low)))

-- the six bytes after code and odd bits
pub six_zeros : (k : Kept) → all_zero (take 6 (drop 2 (encode k))) ≡ true
unfolding encode all_zero
six_zeros k = refl

-- the pending bytes and the count, read from a record's bytes
pending-back : (k : Kept) → length k.pending ≡ 32 → take 32 (drop 168 (encode k)) ≡ k.pending
unfolding encode five words_of_all words_of bytes_of_all bytes_of
pending-back k e = take_at k.pending _ 32 e

tail_back : (k : Kept) → length k.pending ≡ 32 → drop 200 (encode k) ≡ tail_of k
unfolding encode five words_of_all words_of bytes_of_all bytes_of tail_of
tail_back k e = drop_at k.pending (tail_of k) 32 e

-- a number of 64 bits read from its own bytes
number-back : (n : ℕ) (x : List ℕ) → n < 2 ^ 64 → number_at 0 (bytes_of_all (count_words n) ++ x) ≡ n
unfolding number_at count_words bytes_of_all bytes_of word_at
number-back n x h = rw (word_of_bytes (n / 2 ^ 32) (omega arith), word_of_bytes (n % 2 ^ 32) (omega arith)) (Pow.split n 32)

number-drop : (i j : ℕ) (b : List ℕ) → number_at (i + j) b ≡ number_at j (drop i b)
unfolding number_at
number-drop i j b = rw (drop-drop j i b, drop-drop (j + 4) i b, add_assoc i j 4)

high_back : (k : Kept) → length k.pending ≡ 32 → k.high < 2 ^ 64 → number_at count_at (encode k) ≡ k.high
unfolding tail_of
high_back k e h = number-drop 200 0 (encode k) ∙ rw (tail_back k e, bytes-append (count_words k.high) (count_words k.low)) (number-back k.high _ h)

low_back : (k : Kept) → length k.pending ≡ 32 → k.low < 2 ^ 64 → number_at (count_at + 8) (encode k) ≡ k.low
unfolding tail_of
low_back k e h =
    number-drop 200 8 (encode k) ∙ ap (number_at 8) (tail_back k e) ∙ number-drop 8 0 (tail_of k)
    ∙ unfold count_words bytes_of_all bytes_of in (rw (append-nil (bytes_of_all (count_words k.low))) at (number-back k.low [] h))

-- a block read from its own bytes
block_back : (b : Block) (l ws : List ℕ) → ((i : ℕ) → get_or (words_of b ++ ws) i 0 < 2 ^ 32) → block_of (bytes_of_all (words_of b) ++ l) ≡ b
unfolding block_of bytes_of_all words_of bytes_of word_at
block_back b l ws h =
    λ i. record {
      a0 = word_of_bytes b.a0 (h 0) i;
      a1 = word_of_bytes b.a1 (h 1) i;
      a2 = word_of_bytes b.a2 (h 2) i;
      a3 = word_of_bytes b.a3 (h 3) i;
      a4 = word_of_bytes b.a4 (h 4) i;
      a5 = word_of_bytes b.a5 (h 5) i;
      a6 = word_of_bytes b.a6 (h 6) i;
      a7 = word_of_bytes b.a7 (h 7) i;
    }

state-back : (k : Kept) → ((i : ℕ) → get_or (words_of_all (five k.state)) i 0 < 2 ^ 32) → (decode (encode k)).state ≡ k.state
unfolding decode encode block_in five words_of_all words_of bytes_of_all bytes_of
state-back k h =
    let ws : ℕ → List ℕ = λ j. drop (8 * j) (words_of_all (five k.state)) in
    let at : (j i : ℕ) → get_or (ws j) i 0 < 2 ^ 32 = λ j i. rw (get_or-drop (8 * j) (words_of_all (five k.state)) i 0) (h (8 * j + i)) in
    λ i. record {
      h0 = block_back k.state.h0 (drop 40 (encode k)) (ws 1) (at 0) i;
      h1 = block_back k.state.h1 (drop 72 (encode k)) (ws 2) (at 1) i;
      h2 = block_back k.state.h2 (drop 104 (encode k)) (ws 3) (at 2) i;
      h3 = block_back k.state.h3 (drop 136 (encode k)) (ws 4) (at 3) i;
      h4 = block_back k.state.h4 (drop 168 (encode k)) [] (at 4) i;
    }

-- writing a record and reading it back gives the record
pub decode-encode : (k : Kept) → k.code < 256 → Typed k → decode (encode k) ≡ k
unfolding decode encode
decode-encode k c t =
    λ i. record {
      code = mod-eq_of_lt c i;
      odd = mod-eq_of_lt t.odd i;
      state = state-back k t.words i;
      pending = pending-back k t.pending i;
      high = high_back k t.pending t.high i;
      low = low_back k t.pending t.low i;
    }

-- bytes of a string, each below 256, read as a word and written again
word_glue : (x : List ℕ) (k : ℕ) → ((i : ℕ) → get_or x i 0 < 256) → 4 * k + 4 ≤ length x
    → bytes_of (word_at x k) ++ drop (4 * k + 4) x ≡ drop (4 * k) x
unfolding word_at
word_glue x k h e =
    let n : ℕ = 4 * k in
    rw (
      bytes_of_word (get_or x n 0) (get_or x (n + 1) 0) (get_or x (n + 2) 0) (get_or x (n + 3) 0) (h n) (h (n + 1)) (h (n + 2)) (h (n + 3)),
      drop-cons x n 0 (omega arith),
      drop-cons x (suc n) 0 (omega arith),
      drop-cons x (suc (suc n)) 0 (omega arith),
      drop-cons x (suc (suc (suc n))) 0 (omega arith),
    )
    (simp towards_suc)

-- a block read and written again
pub block_glue : (x : List ℕ) → ((i : ℕ) → get_or x i 0 < 256) → 32 ≤ length x → bytes_of_all (words_of (block_of x)) ++ drop 32 x ≡ x
unfolding block_of words_of bytes_of_all
block_glue x h e =
    simp append_assoc
    (rw (
      word_glue x 7 h e,
      word_glue x 6 h (omega arith),
      word_glue x 5 h (omega arith),
      word_glue x 4 h (omega arith),
      word_glue x 3 h (omega arith),
      word_glue x 2 h (omega arith),
      word_glue x 1 h (omega arith),
      word_glue x 0 h (omega arith),
    ))

-- a part of a string, and what comes after it
pub bytes_drop : (n : ℕ) (b : List ℕ) → ((i : ℕ) → get_or b i 0 < 256) → (i : ℕ) → get_or (drop n b) i 0 < 256
bytes_drop n b h i = rw (get_or-drop n b i 0) (h (n + i))

block_in_glue : (b : List ℕ) → ((i : ℕ) → get_or b i 0 < 256) → (j : ℕ) → 8 + 32 * j + 32 ≤ length b
    → bytes_of_all (words_of (block_in b j)) ++ drop (8 + 32 * j + 32) b ≡ drop (8 + 32 * j) b
unfolding block_in
block_in_glue b h j e =
    let n : ℕ = 8 + 32 * j in
    rw (drop-drop 32 n b) at (block_glue (drop n b) (bytes_drop n b h) (omega (arith, length-drop n b)))

-- the state of a record read and written again
state_glue : (b : List ℕ) → ((i : ℕ) → get_or b i 0 < 256) → length b ≡ 216
    → bytes_of_all (words_of_all (five (decode b).state)) ++ drop 168 b ≡ drop 8 b
unfolding decode five words_of_all bytes_of_all
state_glue b h e =
    simp (bytes-append, append_assoc)
    (rw (
      block_in_glue b h 4 (omega arith),
      block_in_glue b h 3 (omega arith),
      block_in_glue b h 2 (omega arith),
      block_in_glue b h 1 (omega arith),
      block_in_glue b h 0 (omega arith),
    ))

pending_glue : (b : List ℕ) → (decode b).pending ++ drop 200 b ≡ drop 168 b
unfolding decode
pending_glue b = rw (drop-drop 32 168 b) at (take-append-drop 32 (drop 168 b))

pub word_lt : (x : List ℕ) (k : ℕ) → ((i : ℕ) → get_or x i 0 < 256) → word_at x k < 2 ^ 32
unfolding word_at word_of
word_lt x k h = omega (arith, h (4 * k), h (4 * k + 1), h (4 * k + 2), h (4 * k + 3))

-- a number of a record read and written again
pub number_lt : (i : ℕ) (b : List ℕ) → ((j : ℕ) → get_or b j 0 < 256) → number_at i b < 2 ^ 64
unfolding number_at
number_lt i b h = omega (arith, word_lt (drop i b) 0 (bytes_drop i b h), word_lt (drop (i + 4) b) 0 (bytes_drop (i + 4) b h))

number_glue : (i : ℕ) (b : List ℕ) → ((j : ℕ) → get_or b j 0 < 256) → i + 8 ≤ length b
    → bytes_of_all (count_words (number_at i b)) ++ drop (i + 8) b ≡ drop i b
unfolding number_at count_words bytes_of_all
number_glue i b h e =
    let lo : word_at (drop (i + 4) b) 0 < 2 ^ 32 = word_lt (drop (i + 4) b) 0 (bytes_drop (i + 4) b h) in
    let m : i + 4 + 4 ≡ i + 8 = omega arith in
    let p : bytes_of (word_at (drop (i + 4) b) 0) ++ drop (i + 8) b ≡ drop (i + 4) b =
    rw (drop-drop 4 (i + 4) b, m) at (word_glue (drop (i + 4) b) 0 (bytes_drop (i + 4) b h) (omega (arith, length-drop (i + 4) b))) in
    let q : bytes_of (word_at (drop i b) 0) ++ drop (i + 4) b ≡ drop i b =
    rw (drop-drop 4 i b) at (word_glue (drop i b) 0 (bytes_drop i b h) (omega (arith, length-drop i b))) in
    rw (Pow.high (word_at (drop i b) 0) 32 lo, Pow.low (word_at (drop i b) 0) 32 lo)
    (simp (append_assoc, append-nil) (rw p q))

count_glue : (b : List ℕ) → ((i : ℕ) → get_or b i 0 < 256) → length b ≡ 216
    → bytes_of_all (count_words (decode b).high ++ count_words (decode b).low) ≡ drop 200 b
unfolding decode
count_glue b h e =
    let p = number_glue 208 b h (omega arith) in
    rw (bytes-append (count_words (number_at 200 b)) (count_words (number_at 208 b)))
    (rw (sym (append-nil (bytes_of_all (count_words (number_at 208 b)))) ∙ ap (λ (x : List ℕ). bytes_of_all (count_words (number_at 208 b)) ++ x) (sym (drop_of_length-le b {i = 216} (omega arith))) ∙ p)
    (number_glue 200 b h (omega arith)))

-- code, odd bits and the zeros after them
head_glue : (b : List ℕ) → ((i : ℕ) → get_or b i 0 < 256) → length b ≡ 216 → all_zero (take 6 (drop 2 b)) ≡ true
    → (get_or b 0 0 % 256 ∷ get_or b 1 0 % 256 ∷ replicate 6 0) ++ drop 8 b ≡ b
head_glue [] h e z = absurd (omega arith)
head_glue (a ∷ []) h e z = absurd (omega arith)
head_glue (a ∷ o ∷ b) h e z =
    let r : take 6 b ≡ replicate 6 0 = rw (length-take-le 6 b (omega arith)) at (zeros (take 6 b) z) in
    ap₂ (λ (c : ℕ) (m : List ℕ). c ∷ m) (mod-eq_of_lt (h 0)) (ap₂ (λ (c : ℕ) (m : List ℕ). c ∷ m) (mod-eq_of_lt (h 1)) (rw r at (take-append-drop 6 b)))

-- reading a well formed record and writing it again gives its bytes
pub encode-decode : (b : List ℕ) → ((i : ℕ) → get_or b i 0 < 256) → well_formed b ≡ true → encode (decode b) ≡ b
unfolding encode decode
encode-decode b h w =
    let f : Formed b = formed b w in
    let l : length b ≡ 216 = f.size in
    simp append_assoc
    (rw (count_glue b h l, pending_glue b, state_glue b h l) (head_glue b h l f.reserved))
