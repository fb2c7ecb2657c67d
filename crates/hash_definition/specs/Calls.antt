-- The outcome of each call on messages and hash records: document 01, "The kept hash record", its sentence on the answers of start, feed, finish
-- and the one-call digest, and "Refusal numbers", 1 to 4; document 02, Q-7. An outcome is the answer's number and the buffer that was lent for
-- writing, as it is at the end.
use Rattle.std.specs.Prelude.{ℕ, ◌+◌, ◌*◌, not, ◌&&◌, ◌||◌, List, [], ◌∷◌, leb, ltb, eqb, length}
use Rattle.hash_definition.specs.declared.Kept.{Kept}
use Rattle.definition.specs.Padding.{whole_bytes, bits_in}
use Rattle.definition.specs.Luffa.{bytes_at, limit_at, luffa_of_bits}
use Rattle.definition.specs.Buffer.{overwrite}
use Rattle.definition.specs.Refusal.{Refusal, RECORD, LONG, ODD, first_of, when_done, width_refusal, out_refusal}
use Rattle.hash_definition.specs.Record.{record_length, bytes_fed, encode, decode, well_formed, started, fed_bits, finished}

-- "Start, feed, finish and the one-call digest answer a refusal number"
pub record Outcome : Type 0 where
  pub number : ℕ
  pub buffer : List ℕ

-- "A refusal writes nothing": the buffer as it is after a call that is done, or as before
unfoldable pub outcome : List Refusal → (after before : List ℕ) → Outcome
outcome rs after before = record { number = first_of rs; buffer = when_done (first_of rs) after before }

-- 17: "feeding anything, even an empty piece, to a record that has odd bits; an odd-bit number over 7; odd bits with an empty piece"
unfoldable pub odd_refusal : (held odd piece_length : ℕ) → Refusal
odd_refusal held odd piece_length = (ODD, not (eqb held 0) || ltb 7 odd || (not (eqb odd 0) && eqb piece_length 0))

-- 4: "4 and a well-formed count follow Table 1 in bits": the whole bytes so far, the piece's and its odd bits reach the limit
unfoldable pub long_refusal : (code count odd piece_length : ℕ) → Refusal
long_refusal code count odd piece_length = (LONG, leb (limit_at code) (8 * (count + whole_bytes odd piece_length) + odd))

-- 3: "hash record not well formed"
unfoldable pub record_refusal : (record' : List ℕ) → Refusal
record_refusal record' = (RECORD, not (well_formed record'))

-- 3: "start wants 216 bytes"
unfoldable pub buffer_refusal : (buffer_length : ℕ) → Refusal
buffer_refusal buffer_length = (RECORD, not (eqb buffer_length record_length))

-- each call's refusals in their order
unfoldable pub digest_refusals : (code odd message_length out_length : ℕ) → List Refusal
digest_refusals code odd message_length out_length =
    width_refusal code ∷ out_refusal (bytes_at code) out_length ∷ odd_refusal 0 odd message_length ∷ long_refusal code 0 odd message_length ∷ []

unfoldable pub start_refusals : (code buffer_length : ℕ) → List Refusal
start_refusals code buffer_length = width_refusal code ∷ buffer_refusal buffer_length ∷ []

unfoldable pub feed_refusals : (record' : List ℕ) → (odd piece_length : ℕ) → List Refusal
feed_refusals record' odd piece_length =
    let k : Kept = decode record' in
    record_refusal record' ∷ odd_refusal k.odd odd piece_length ∷ long_refusal k.code (bytes_fed k) odd piece_length ∷ []

-- "In finish, 2 is judged only when the record is well formed; a record with an unknown code is refused 3"
unfoldable pub finish_refusals : (record' : List ℕ) → (out_length : ℕ) → List Refusal
finish_refusals record' out_length = record_refusal record' ∷ out_refusal (bytes_at (decode record').code) out_length ∷ []

-- "a digest stands in the first bytes of the output buffer and the bytes after it are untouched"
unfoldable pub digest_bits_outcome : (code : ℕ) → (message : List ℕ) → (odd : ℕ) → (out : List ℕ) → Outcome
digest_bits_outcome code message odd out =
    outcome (digest_refusals code odd (length message) (length out)) (overwrite (luffa_of_bits code (bits_in message odd)) out) out

unfoldable pub start_outcome : (code : ℕ) → (buffer : List ℕ) → Outcome
start_outcome code buffer = outcome (start_refusals code (length buffer)) (encode (started code)) buffer

unfoldable pub feed_bits_outcome : (record' piece : List ℕ) → (odd : ℕ) → Outcome
feed_bits_outcome record' piece odd =
    outcome (feed_refusals record' odd (length piece)) (encode (fed_bits (decode record') piece odd)) record'

-- "Finish reads the record only": what is lent for writing is the output buffer
unfoldable pub finish_outcome : (record' out : List ℕ) → Outcome
finish_outcome record' out = outcome (finish_refusals record' (length out)) (overwrite (finished (decode record')) out) out

-- whole bytes: no odd bits
abbrev pub digest_outcome : (code : ℕ) → (message out : List ℕ) → Outcome
digest_outcome code message out = digest_bits_outcome code message 0 out

abbrev pub feed_outcome : (record' piece : List ℕ) → Outcome
feed_outcome record' piece = feed_bits_outcome record' piece 0
