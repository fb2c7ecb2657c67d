-- The record's layout: parts read where they lie, what is held written in its place, and the whole written part by part.
-- Assumes nothing.
use mathlib.Core.Path.{◌≡◌, ◌∙◌}
use mathlib.Core.List.{List, [], ◌∷◌, ◌++◌, append-nil, append_assoc}
use Prim.Native.Nat.{ℕ, ◌+◌, ◌%◌, ◌≤◌}
use native.Mathlib.Omega.{arith}
use borrow.Author.Tests.{eq-eqb, le-leb}
use lib.ListN.{length, take, drop, replicate, length-append, length-drop, drop_of_length-le}
use lib.Seq.{take_at, length-take-le}
use Rattle.definition.specs.declared.State.{State}
use Rattle.hash_definition.specs.declared.Kept.{Kept}
use Rattle.hash_definition.specs.declared.Held.{Held}
use Rattle.definition.specs.Word.{bytes_of_all}
use Rattle.definition.specs.Block.{block_of, word_at, words_of, words_of_all}
use Rattle.definition.specs.State.{five}
use Rattle.definition.specs.Buffer.{overwrite_at}
use Rattle.definition.specs.Refusal.{pick}
use Rattle.octets.specs.Total.{first_block, word_when, first_word, write_at}
use Rattle.hash_definition.specs.Record.{record_length, count_words, encode, held_of, with_held}
use Rattle.hash_record.specs.Reading.{held_written, written}
use Rattle.definition.proofs.Word.{length-bytes}
use Rattle.octets.proofs.Total.{whole-block, word-front, block-front, write_at_lem, write_at-more}

-- a block and a word read from a part
pub part_block : (b : List ℕ) (i n : ℕ) → 32 ≤ n → i + n ≤ length b → first_block (take n (drop i b)) ≡ block_of (drop i b)
part_block b i n h l =
    let e : length (take n (drop i b)) ≡ n = length-take-le n (drop i b) (omega (arith, length-drop i b)) in
    whole-block (take n (drop i b)) (omega arith) ∙ block-front n (drop i b) h

pub part_word : (b : List ℕ) (i n : ℕ) → 4 ≤ n → i + n ≤ length b → first_word (take n (drop i b)) ≡ word_at (drop i b) 0
unfolding first_word word_when
part_word b i n h l =
    let e : length (take n (drop i b)) ≡ n = length-take-le n (drop i b) (omega (arith, length-drop i b)) in
    rw (e, le-leb 4 n h) (word-front n 0 (drop i b) (omega arith))

-- the state is 160 bytes, and the count 16
length-state : (s : State) → length (bytes_of_all (words_of_all (five s))) ≡ 160
unfolding words_of_all five words_of
length-state s = length-bytes (words_of_all (five s))

length-count : (m n : ℕ) → length (bytes_of_all (count_words m ++ count_words n)) ≡ 16
unfolding count_words
length-count m n = length-bytes (count_words m ++ count_words n)

-- the last two pieces of a buffer written, and its second byte
end-written : (x w p v : List ℕ) → length x ≡ 168 → length w ≡ 48 → length p ≡ 32 → length v ≡ 16
    → write_at 200 v (write_at 168 p (x ++ w)) ≡ x ++ p ++ v
unfolding overwrite_at
end-written x w p v i j m n =
    let l : length (x ++ w) ≡ 216 = omega (arith, length-append x w) in
    let k : length (p ++ v) ≡ 48 = omega (arith, length-append p v) in
    write_at-more 168 200 p v (x ++ w) (omega arith) (omega arith)
    ∙ write_at_lem 168 (p ++ v) (x ++ w) (omega arith)
    ∙ rw (take_at x w 168 i, drop_of_length-le (x ++ w) {i = 168 + length (p ++ v)} (omega arith), append-nil, append_assoc)

second-written : (a c o : ℕ) (l : List ℕ) → write_at 1 (o ∷ []) (c ∷ a ∷ l) ≡ c ∷ o ∷ l
unfolding overwrite_at
second-written a c o l = write_at_lem 1 (o ∷ []) (c ∷ a ∷ l) (omega arith)

-- what is held, written after the code's byte and after the state
in_place : (h : Held) (c o : ℕ) (y w : List ℕ) → length y ≡ 166 → length w ≡ 48 → length h.pending ≡ 32
    → held_written h (c ∷ o ∷ y ++ w)
    ≡ (c ∷ h.odd % 256 ∷ y) ++ h.pending ++ bytes_of_all (count_words h.high ++ count_words h.low)
unfolding held_written
in_place h c o y w i j m =
    rw second-written
    (end-written (c ∷ h.odd % 256 ∷ y) w h.pending (bytes_of_all (count_words h.high ++ count_words h.low)) (omega arith) j m (length-count h.high h.low))

-- the six zeros and the state, between odd bits and pending bytes
abbrev between : State → List ℕ
between s = replicate 6 0 ++ bytes_of_all (words_of_all (five s))

length_between : (s : State) → length (between s) ≡ 166
length_between s = omega (arith, length-append (replicate 6 0) (bytes_of_all (words_of_all (five s))), length-state s)

-- a record in which what is held is written anew
pub held-written : (k : Kept) (h : Held) → length k.pending ≡ 32 → length h.pending ≡ 32
    → held_written h (encode k) ≡ encode (with_held k h)
unfolding encode with_held
held-written k h m n =
    let v : List ℕ = bytes_of_all (count_words k.high ++ count_words k.low) in
    let l : length (k.pending ++ v) ≡ 48 = omega (arith, length-append k.pending v, length-count k.high k.low) in
    rw (append_assoc (between k.state) k.pending v)
    (in_place h (k.code % 256) (k.odd % 256) (between k.state) (k.pending ++ v) (length_between k.state) l n)

-- header, state and what is held, written one after the other, are the record
pub all_parts : (k : Kept) (b : List ℕ) → length b ≡ 216 → length k.pending ≡ 32
    → held_written (held_of k)
    (write_at 8 (bytes_of_all (words_of_all (five k.state))) (write_at 0 (k.code % 256 ∷ replicate 7 0) b))
    ≡ encode k
unfolding encode held_of overwrite_at
all_parts k b h e =
    let x : ℕ = k.code % 256 in
    let y : List ℕ = between k.state in
    let n : length y ≡ 166 = length_between k.state in
    let m : length (bytes_of_all (words_of_all (five k.state))) ≡ 160 = length-state k.state in
    let l : length (x ∷ 0 ∷ y) ≡ 168 = omega arith in
    let d : length (drop 168 b) ≡ 48 = omega (arith, length-drop 168 b) in
    rw (
      write_at-more 0 8 (x ∷ replicate 7 0) (bytes_of_all (words_of_all (five k.state))) b (omega arith) (omega arith),
      write_at_lem 0 (x ∷ 0 ∷ y) b (omega arith),
      l,
    )
    (in_place (held_of k) x 0 y (drop 168 b) n d e)

-- a buffer of 216 bytes is written whole
pub written-whole : (k : Kept) (b : List ℕ) → length b ≡ record_length → written k b ≡ encode k
unfolding written pick
written-whole k b h = rw (eq-eqb (length b) record_length h)
