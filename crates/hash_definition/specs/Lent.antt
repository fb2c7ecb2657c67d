-- The outcome of each call over a working state that the caller lends: document 01, "The kept hash record", last paragraph, "Within one program
-- the same is wanted over a working state that the caller lends, with feeding altering it where it stands". The working state is a `Kept` in
-- memory in place of its 216 bytes. An outcome is the answer's number and what was lent for writing, as it is at the end.
use Rattle.std.specs.Prelude.{ℕ, not, List, [], ◌∷◌, length}
use Rattle.hash_definition.specs.declared.Kept.{Kept}
use Rattle.hash_definition.specs.declared.Lent.{Lent}
use Rattle.definition.specs.Luffa.{bytes_at}
use Rattle.definition.specs.Buffer.{overwrite}
use Rattle.definition.specs.Refusal.{Refusal, RECORD, first_of, width_refusal, out_refusal, when_done}
use Rattle.hash_definition.specs.Record.{bytes_fed, well_kept, started, fed_bits, finished}
use Rattle.hash_definition.specs.Calls.{Outcome, outcome, odd_refusal, long_refusal}

-- "A refusal writes nothing"
unfoldable pub lent_outcome : List Refusal → (after before : Kept) → Lent
lent_outcome rs after before = record { number = first_of rs; kept = when_done (first_of rs) after before }

-- 3: the working state is not well formed
unfoldable pub kept_refusal : Kept → Refusal
kept_refusal k = (RECORD, not (well_kept k))

-- "It obeys the same rules": the refusals in the order of the byte form
unfoldable pub lent_start_refusals : (code : ℕ) → List Refusal
lent_start_refusals code = width_refusal code ∷ []

unfoldable pub lent_feed_refusals : Kept → (odd piece_length : ℕ) → List Refusal
lent_feed_refusals k odd piece_length =
    kept_refusal k ∷ odd_refusal k.odd odd piece_length ∷ long_refusal k.code (bytes_fed k) odd piece_length ∷ []

unfoldable pub lent_finish_refusals : Kept → (out_length : ℕ) → List Refusal
lent_finish_refusals k out_length = kept_refusal k ∷ out_refusal (bytes_at k.code) out_length ∷ []

-- and what is done is what the byte form does with the record that is held
unfoldable pub lent_start_outcome : (code : ℕ) → Kept → Lent
lent_start_outcome code k = lent_outcome (lent_start_refusals code) (started code) k

unfoldable pub lent_feed_bits_outcome : Kept → (piece : List ℕ) → (odd : ℕ) → Lent
lent_feed_bits_outcome k piece odd = lent_outcome (lent_feed_refusals k odd (length piece)) (fed_bits k piece odd) k

unfoldable pub lent_finish_outcome : Kept → (out : List ℕ) → Outcome
lent_finish_outcome k out = outcome (lent_finish_refusals k (length out)) (overwrite (finished k) out) out

-- whole bytes: no odd bits
abbrev pub lent_feed_outcome : Kept → (piece : List ℕ) → Lent
lent_feed_outcome k piece = lent_feed_bits_outcome k piece 0
