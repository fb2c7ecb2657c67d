-- Demand 2 over the byte form: a message digested at once, and the same message fed in pieces to a kept hash record and finished, give the
-- same digest, whatever the pieces, and whatever odd bits end the last.
-- Assumes nothing.
use mathlib.Core.Path.{◌≡◌, refl, ap, ◌∙◌}
use mathlib.Core.Bool.{true}
use mathlib.Core.List.{List, ◌++◌}
use Prim.Native.Nat.{ℕ, ◌+◌, ◌*◌, ◌<◌, ◌≤◌}
use native.Mathlib.Omega.{arith}
use lib.ListN.{length, replicate}
use borrow.Author.Tests.{eq-eqb}
use Rattle.definition.specs.Padding.{whole_bytes, bits_in}
use Rattle.definition.specs.Luffa.{bytes_at, limit_at, luffa_of_bits}
use Rattle.definition.specs.Buffer.{overwrite, joined}
use Rattle.definition.specs.Refusal.{pick, first_of, known, width_refusal, when_done}
use Rattle.hash_definition.specs.Record.{record_length, encode, started, fed_bits}
use Rattle.hash_definition.specs.Calls.{outcome, buffer_refusal, start_refusals, start_outcome, feed_bits_outcome, feed_outcome, finish_outcome}
use Rattle.hash_definition.specs.Said.{done, in_bytes, feed_all, Ends, Demand2, BitsDemand2}
use Rattle.definition.proofs.BitStrings.{luffa-whole}
use Rattle.hash_definition.proofs.Feeding.{kept_of, Sound, kept-sound, feed_each_lem}
use Rattle.hash_definition.proofs.Working.{lent-feed, lent-finish, sound_typed, sound-byte}
use Rattle.hash_definition.proofs.WorkingDemand2.{no_bits, lent-fed, kept_bits_sound, kept_finish_done, digest_done, ends_whole, bits-within, front-within, last_fed}

-- a known code and a buffer of 216 bytes: the record to begin with
start_done : (code : ℕ) (b : List ℕ) → known code ≡ true → length b ≡ record_length → start_outcome code b ≡ done (encode (started code))
unfolding start_outcome outcome start_refusals width_refusal buffer_refusal first_of pick when_done
start_done code b k e = rw (k, eq-eqb (length b) record_length e)

-- pieces of whole bytes, fed in turn
fed_all : (code : ℕ) (ps : List (List ℕ)) → known code ≡ true → 8 * length (joined ps) < limit_at code
    → feed_all (encode (started code)) ps ≡ record { numbers = replicate (length ps) 0; last = encode (kept_of code (joined ps)) }
fed_all code ps k h =
    feed_each_lem (λ b p. (feed_outcome b p).number) (λ b p. (feed_outcome b p).buffer) encode
    (λ j p s z i. rw (lent-feed j (sound_typed j s) (sound-byte j s) p 0, lent-fed j p s.well z i) (refl, refl)) code ps k h

-- an output buffer that is long enough: Luffa of the bit string that the record holds
finish_done : (code : ℕ) (m : List ℕ) (odd : ℕ) (out : List ℕ) → known code ≡ true → Ends odd m
    → 8 * whole_bytes odd (length m) + odd < limit_at code → bytes_at code ≤ length out
    → finish_outcome (encode (fed_bits (started code) m odd)) out ≡ done (overwrite (luffa_of_bits code (bits_in m odd)) out)
finish_done code m odd out k e h l =
    let s : Sound (fed_bits (started code) m odd) = kept_bits_sound code m odd k e h in
    lent-finish (fed_bits (started code) m odd) (sound_typed _ s) (sound-byte _ s) out ∙ kept_finish_done code m odd out k e h l

-- Demand 2 holds for every known code, every buffer of 216 bytes, every message of whole bytes under Table 1's limit in any pieces, empty ones
-- too, and every output buffer that has room for the digest
pub demand2 : (code : ℕ) (b : List ℕ) (ps : List (List ℕ)) (out : List ℕ)
    → known code ≡ true → length b ≡ record_length → 8 * length (joined ps) < limit_at code → bytes_at code ≤ length out
    → Demand2 code b ps out
unfolding fed_bits whole_bytes
demand2 code b ps out k e h l =
    let s = start_done code b k e in
    let f = fed_all code ps k h in
    let m : List ℕ = joined ps in
    let i : 8 * length m + 0 < limit_at code = omega arith in
    let whole = ap (λ (d : List ℕ). done (overwrite d out)) (luffa-whole code m) in
    record {
      started = rw s;
      fed = rw (s, f);
      finished = rw (s, f) (finish_done code m 0 out k (no_bits m) i l ∙ whole);
      digested = digest_done code m 0 out k (no_bits m) i l ∙ whole;
    }

-- the last piece, which may end with odd bits, fed to the record of those before it
last_fed_bytes : (code : ℕ) (ps : List (List ℕ)) (last : List ℕ) (odd : ℕ) → known code ≡ true → Ends odd last
    → length (bits_in (joined ps ++ last) odd) < limit_at code
    → feed_bits_outcome (encode (kept_of code (joined ps))) last odd ≡ done (encode (fed_bits (started code) (joined ps ++ last) odd))
last_fed_bytes code ps last odd k o h =
    let j : Sound (kept_of code (joined ps)) = kept-sound code (joined ps) k (front-within code ps last odd k o h) in
    lent-feed (kept_of code (joined ps)) (sound_typed _ j) (sound-byte _ j) last odd ∙ ap in_bytes (last_fed code ps last odd k o h)

-- the record after such pieces, fed in turn
pub record-after : (code : ℕ) (b : List ℕ) (ps : List (List ℕ)) (last : List ℕ) (odd : ℕ) → known code ≡ true → length b ≡ record_length → Ends odd last
    → length (bits_in (joined ps ++ last) odd) < limit_at code
    → (feed_bits_outcome (feed_all (start_outcome code b).buffer ps).last last odd).buffer ≡ encode (fed_bits (started code) (joined ps ++ last) odd)
record-after code b ps last odd k e o h =
    rw (start_done code b k e, fed_all code ps k (front-within code ps last odd k o h), last_fed_bytes code ps last odd k o h)

-- and of every bit length under Table 1's limit: the last piece ends with odd bits or without
pub bits_demand2 : (code : ℕ) (b : List ℕ) (ps : List (List ℕ)) (last : List ℕ) (odd : ℕ) (out : List ℕ)
    → known code ≡ true → length b ≡ record_length → Ends odd last → length (bits_in (joined ps ++ last) odd) < limit_at code
    → bytes_at code ≤ length out → BitsDemand2 code b ps last odd out
bits_demand2 code b ps last odd out k e o h l =
    let s = start_done code b k e in
    let f = fed_all code ps k (front-within code ps last odd k o h) in
    let d = last_fed_bytes code ps last odd k o h in
    let m : List ℕ = joined ps ++ last in
    let q : Ends odd m = ends_whole code ps last odd k o h in
    let i = bits-within code ps last odd k o h in
    record {
      started = rw s;
      fed = rw (s, f);
      ended = rw (s, f, d);
      finished = rw (s, f, d) (finish_done code m odd out k q i l);
      digested = digest_done code m odd out k q i l;
    }
