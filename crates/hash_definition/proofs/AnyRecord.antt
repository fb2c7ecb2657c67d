-- Feeding any well formed hash record, also one that no message leads to: a piece past the limit is refused, a piece within it is taken, a record
-- that has odd bits takes nothing more, and pieces in turn are taken as their concatenation is.
-- Assumes nothing.
use mathlib.Core.Path.{◌≡◌, ap, ◌∙◌}
use mathlib.Core.Bool.{true}
use mathlib.Core.List.{List, [], ◌++◌}
use Prim.Native.Nat.{ℕ, ◌+◌, ◌<◌, ◌≤◌}
use native.Mathlib.Omega.{arith}
use lib.ListN.{get_or, drop}
use Rattle.hash_definition.specs.declared.Kept.{Kept}
use Rattle.definition.specs.Block.{block_of}
use Rattle.definition.specs.State.{five}
use Rattle.definition.specs.Luffa.{limit_at}
use Rattle.definition.specs.Refusal.{ODD}
use Rattle.hash_definition.specs.Record.{count_at, block_in, decode, well_formed, fed, fed_bits}
use Rattle.hash_definition.specs.Calls.{feed_bits_outcome, feed_outcome}
use Rattle.hash_definition.specs.Said.{done, refused, long, in_bytes, Ends, AnyFed}
use Rattle.definition.proofs.Bounds.{Words, AllWords}
use Rattle.hash_definition.proofs.Feeding.{Sound, fed-sound}
use Rattle.hash_definition.proofs.Ending.{fed_bits_sound}
use Rattle.hash_definition.proofs.Formed.{formed}
use Rattle.hash_definition.proofs.Records.{encode-decode, bytes_drop, word_lt, number_lt}
use Rattle.hash_definition.proofs.Working.{lent_decoded, lent-formed, lent-feed, sound_typed, sound-byte, held-feed}
use Rattle.hash_definition.proofs.WorkingDemand2.{bits_after, whole_append, lent_feed_done, lent_feed_long, lent_feed_odd, lent-fed, lent-twice, lent_empty}

-- the blocks read from bytes are words
pub block_words : (x : List ℕ) → ((i : ℕ) → get_or x i 0 < 256) → Words (block_of x)
unfolding block_of
block_words x h = search word_lt

decoded_words : (b : List ℕ) → ((i : ℕ) → get_or b i 0 < 256) → AllWords (five (decode b).state)
unfolding decode five block_in
decoded_words b h = (at 8, (at 40, (at 72, (at 104, (at 136, tt)))))
  where
    at : (n : ℕ) → Words (block_of (drop n b))
    at n = block_words (drop n b) (bytes_drop n b h)

module _ (b : List ℕ) (bytes : (i : ℕ) → get_or b i 0 < 256) (w : well_formed b ≡ true) where
  abbrev k : Kept
  k = decode b

  -- a well formed record holds a sound working state
  pub sound : Sound k
  sound =
      record { words = decoded_words b bytes; buffer = (formed b w).buffer; low = unfold decode in number_lt (count_at + 8) b bytes; well = (formed b w).holds }

  -- what the bytes answer is what the working state answers, and a refused record is as it was
  as_held : (p : List ℕ) (odd n : ℕ) → feed_bits_outcome b p odd ≡ in_bytes (record { number = n; kept = k }) → feed_bits_outcome b p odd ≡ refused n b
  as_held p odd n e = e ∙ ap (λ (x : List ℕ). refused n x) (encode-decode b bytes w)

  -- a well formed record and a piece past the limit: refused, and the record is as it was
  pub any_long : (p : List ℕ) (odd : ℕ) → k.odd ≡ 0 → Ends odd p → limit_at k.code ≤ bits_after k p odd → feed_bits_outcome b p odd ≡ long b
  any_long p odd z e h = as_held p odd _ (held-feed b p odd bytes w ∙ ap in_bytes (lent_feed_long k p odd sound.well z e h))

  -- "feeding anything, even an empty piece, to a record that has odd bits": refused 17, and the record is as it was
  pub any_odd : (p : List ℕ) (odd : ℕ) → 0 < k.odd → feed_bits_outcome b p odd ≡ refused ODD b
  any_odd p odd h = as_held p odd _ (held-feed b p odd bytes w ∙ ap in_bytes (lent_feed_odd k p odd sound.well h))

  -- every well formed record without odd bits takes every piece within the limit
  pub any_fed : (p : List ℕ) (odd : ℕ) → k.odd ≡ 0 → Ends odd p → bits_after k p odd < limit_at k.code → AnyFed b p odd
  any_fed p odd z e h =
      let s : Sound (fed_bits k p odd) = fed_bits_sound k p odd sound z e h in
      record {
        accepts = held-feed b p odd bytes w ∙ ap in_bytes (lent_feed_done k p odd sound.well z e h);
        formed = lent-formed (fed_bits k p odd) (sound_typed _ s) (sound-byte _ s) ∙ s.well;
        holds = lent_decoded (fed_bits k p odd) (sound_typed _ s) (sound-byte _ s);
      }

  -- two pieces fed in turn to a well formed record are fed as their concatenation is: the same answer and the same record
  pub any_twice : (y z : List ℕ) (odd : ℕ) → k.odd ≡ 0 → Ends odd z → bits_after k (y ++ z) odd < limit_at k.code
      → feed_bits_outcome (feed_outcome b y).buffer z odd ≡ feed_bits_outcome b (y ++ z) odd
  any_twice y z odd o e h =
      let n = whole_append odd y z e in
      let s : Sound (fed k y) = fed-sound k y sound o (omega arith) in
      let d = lent-fed k y sound.well o (omega arith) in
      rw (held-feed b y 0 bytes w, d, lent-feed (fed k y) (sound_typed _ s) (sound-byte _ s) z odd, held-feed b (y ++ z) odd bytes w)
      (ap in_bytes (rw d at (lent-twice k y z odd sound.well sound.buffer o e h)))

  -- the empty piece leaves a well formed record without odd bits as it is
  pub any_empty : k.odd ≡ 0 → feed_outcome b [] ≡ done b
  any_empty z = as_held [] 0 0 (held-feed b [] 0 bytes w ∙ ap in_bytes (lent_empty k sound z))
