-- The calls over a lent working state are those of the byte form, read through `encode`: the same answer, and the working state at the end is
-- what the record's bytes then hold. A code that is no byte has no record, and is refused.
-- Assumes nothing.
use mathlib.Core.Path.{◌≡◌, refl, sym, ap, ◌∙◌}
use mathlib.Core.Bool.{true, false}
use mathlib.Core.List.{List}
use Prim.Native.Nat.{ℕ, zero, suc, ◌+◌, ◌*◌, ◌^◌, ◌<◌, ◌≤◌}
use native.Mathlib.Omega.{arith}
use lib.Dec.{leb}
use lib.ListN.{length, get_or}
use lib.Pow.{shr_lt}
use borrow.Author.Tests.{eq-eqb, le-leb, lt-leb, leb-true}
use Rattle.hash_definition.specs.declared.Kept.{Kept}
use Rattle.definition.specs.Luffa.{limit_at}
use Rattle.definition.specs.Refusal.{Refusal, RECORD, pick, first_of, known, when_done}
use Rattle.hash_definition.specs.Record.{record_length, encode, decode, bytes_fed, well_held, well_kept, well_formed}
use Rattle.hash_definition.specs.Calls.{outcome, record_refusal, buffer_refusal, start_refusals, feed_refusals, finish_refusals, start_outcome, feed_bits_outcome, finish_outcome}
use Rattle.hash_definition.specs.Lent.{lent_outcome, kept_refusal, lent_start_refusals, lent_feed_refusals, lent_finish_refusals, lent_start_outcome, lent_feed_bits_outcome, lent_finish_outcome}
use Rattle.hash_definition.specs.Output.{finish_output_refusals, lent_finish_output_refusals, finish_output_outcome, lent_finish_output_outcome}
use Rattle.hash_definition.specs.Said.{Typed, in_bytes}
use Rattle.definition.proofs.Conditions.{both_true}
use Rattle.definition.proofs.Bounds.{word_in}
use Rattle.hash_definition.proofs.Feeding.{well_kept_lem, Sound, limit_le, high_word}
use Rattle.hash_definition.proofs.Formed.{formed}
use Rattle.hash_definition.proofs.Records.{length-encode, six_zeros, decode-encode, encode-decode}

-- a call that is refused alike and makes of the bytes what is made of the working state
pub in_bytes_lem : (rs : List Refusal) (after before : Kept) → outcome rs (encode after) (encode before) ≡ in_bytes (lent_outcome rs after before)
unfolding outcome lent_outcome
in_bytes_lem rs after before = ap (λ (b : List ℕ). record { number = first_of rs; buffer = b }) (same (first_of rs))
  where
    same : (n : ℕ) → when_done n (encode after) (encode before) ≡ encode (when_done n after before)
    same zero = unfold when_done in refl
    same (suc n) = unfold when_done in refl

module _ (k : Kept) (t : Typed k) where
  length-lent : length (encode k) ≡ record_length
  length-lent = length-encode k t.pending

  module _ (byte : k.code < 256) where
    -- its bytes hold it
    pub lent_decoded : decode (encode k) ≡ k
    lent_decoded = decode-encode k byte t

    -- a working state is well formed when its bytes are
    pub lent-formed : well_formed (encode k) ≡ well_kept k
    unfolding well_formed
    lent-formed = rw (eq-eqb (length (encode k)) record_length length-lent, six_zeros k, lent_decoded)

    -- feeding: the same number, and the bytes of the working state at the end
    pub lent-feed : (piece : List ℕ) (odd : ℕ) → feed_bits_outcome (encode k) piece odd ≡ in_bytes (lent_feed_bits_outcome k piece odd)
    unfolding feed_bits_outcome feed_refusals record_refusal lent_feed_bits_outcome lent_feed_refusals kept_refusal
    lent-feed piece odd = rw (lent-formed, lent_decoded) (in_bytes_lem _ _ _)

    -- finishing: the same number and the same buffer
    pub lent-finish : (out : List ℕ) → finish_outcome (encode k) out ≡ lent_finish_outcome k out
    unfolding finish_outcome finish_refusals record_refusal lent_finish_outcome lent_finish_refusals kept_refusal
    lent-finish out = rw (lent-formed, lent_decoded)

    pub lent_finish_output : (words : ℕ) (out : List ℕ) → finish_output_outcome (encode k) words out ≡ lent_finish_output_outcome k words out
    unfolding finish_output_outcome finish_output_refusals record_refusal lent_finish_output_outcome lent_finish_output_refusals kept_refusal
    lent_finish_output words out = rw (lent-formed, lent_decoded)

  -- starting: the same number, and the bytes of the working state at the end
  pub lent-start : (code : ℕ) → start_outcome code (encode k) ≡ in_bytes (lent_start_outcome code k)
  unfolding start_outcome start_refusals buffer_refusal lent_start_outcome lent_start_refusals lent_outcome first_of pick
  lent-start code = rw (eq-eqb (length (encode k)) record_length length-lent) (in_bytes_lem _ _ _)

-- a code that is known is one byte
known-byte : (code : ℕ) → known code ≡ true → code < 256
unfolding known
known-byte code k = omega (arith, leb-true code 4 (both_true (leb 1 code) (leb code 4) k).1)

-- a sound working state fits its bytes
pub under : (bytes odd limit most : ℕ) → 8 * bytes + odd < limit → limit ≤ most → bytes < most
under bytes odd limit most h m = omega arith

high_lt : (k : Kept) → Sound k → k.high < 2 ^ 64
high_lt k s =
    rw (high_word k s.low) at
    (shr_lt 64 64 (under (bytes_fed k) k.odd (limit_at k.code) (2 ^ 128) (well_kept_lem k s.well).within (limit_le k.code)))

pub sound_typed : (k : Kept) → Sound k → Typed k
sound_typed k s =
    record {
      words = word_in _ s.words;
      pending = s.buffer;
      odd = omega (arith, (well_kept_lem k s.well).odd_le);
      high = high_lt k s;
      low = s.low;
    }

pub sound-byte : (k : Kept) → Sound k → k.code < 256
sound-byte k s = known-byte k.code (well_kept_lem k s.well).code-known

-- a code that is not known: the working state is not well formed
unknown_formed : (k : Kept) → known k.code ≡ false → well_kept k ≡ false
unfolding well_kept well_held
unknown_formed k e = rw e

-- so it is refused, and left as it is
pub unknown_feed : (k : Kept) (piece : List ℕ) (odd : ℕ) → known k.code ≡ false → lent_feed_bits_outcome k piece odd ≡ record { number = RECORD; kept = k }
unfolding lent_feed_bits_outcome lent_outcome lent_feed_refusals kept_refusal first_of pick when_done
unknown_feed k piece odd e = rw (unknown_formed k e)

pub unknown_finish : (k : Kept) (out : List ℕ) → known k.code ≡ false → lent_finish_outcome k out ≡ record { number = RECORD; buffer = out }
unfolding lent_finish_outcome outcome lent_finish_refusals kept_refusal first_of pick when_done
unknown_finish k out e = rw (unknown_formed k e)

-- a code that is no byte is not known
pub no_byte : (code : ℕ) → 256 ≤ code → known code ≡ false
unfolding known
no_byte code h = rw (le-leb 1 code (omega arith), lt-leb code 4 (omega arith))

-- a well formed record and the working state that it holds: the same answer, and the working state at the end has the record's bytes
pub held-feed : (b piece : List ℕ) (odd : ℕ) → ((i : ℕ) → get_or b i 0 < 256) → well_formed b ≡ true
    → feed_bits_outcome b piece odd ≡ in_bytes (lent_feed_bits_outcome (decode b) piece odd)
unfolding feed_bits_outcome feed_refusals record_refusal lent_feed_bits_outcome lent_feed_refusals kept_refusal
held-feed b piece odd h w = rw (w, (formed b w).holds) (ap (outcome _ _) (sym (encode-decode b h w)) ∙ in_bytes_lem _ _ _)

pub held-finish : (b out : List ℕ) → well_formed b ≡ true → finish_outcome b out ≡ lent_finish_outcome (decode b) out
unfolding finish_outcome finish_refusals record_refusal lent_finish_outcome lent_finish_refusals kept_refusal
held-finish b out w = rw (w, (formed b w).holds)

pub held_finish_output : (b : List ℕ) (words : ℕ) (out : List ℕ) → well_formed b ≡ true → finish_output_outcome b words out ≡ lent_finish_output_outcome (decode b) words out
unfolding finish_output_outcome finish_output_refusals record_refusal lent_finish_output_outcome lent_finish_output_refusals kept_refusal
held_finish_output b words out w = rw (w, (formed b w).holds)
