-- Stepping back over a block: document 02, Q-9, "Given a hash record with no pending bytes or odd bits, a count of at least 32, and the 32 bytes,
-- put in its buffer the record before them, its count 32 less". An outcome is the answer's number and the record's buffer as it is at the end.
use Rattle.std.specs.Prelude.{ℕ, ◌-◌, ◌/◌, ◌%◌, ◌^◌, not, ◌||◌, List, [], ◌∷◌, ltb, eqb, length}
use Rattle.definition.specs.declared.Width.{Width}
use Rattle.definition.specs.Block.{block_of}
use Rattle.definition.specs.Width.{width_at}
use Rattle.definition.specs.State.{blocks_in, state_of}
use Rattle.definition.specs.Refusal.{Refusal, BACK}
use Rattle.hash_definition.specs.declared.Kept.{Kept}
use Rattle.hash_definition.specs.declared.Lent.{Lent}
use Rattle.hash_definition.specs.Record.{bytes_fed, pending_count, encode, decode}
use Rattle.hash_definition.specs.Calls.{Outcome, outcome, record_refusal}
use Rattle.hash_definition.specs.Lent.{lent_outcome, kept_refusal}
use Rattle.back_definition.specs.Round.{round_back}

-- "put in its buffer the record before them, its count 32 less"; nothing is pending before or after
unfoldable pub backed : Kept → (block : List ℕ) → Kept
backed k block =
    let w : Width = width_at k.code in
    let count : ℕ = bytes_fed k - 32 in
    record {
      code = k.code;
      odd = k.odd;
      state = state_of (round_back w (blocks_in w k.state) (block_of block));
      pending = k.pending;
      high = count / 2 ^ 64;
      low = count % 2 ^ 64;
    }

-- "18 BACK (any of these conditions missing)": pending bytes, odd bits, a count under 32, or a block that isn't 32 bytes
unfoldable pub back_refusal : Kept → (block_length : ℕ) → Refusal
back_refusal k block_length =
    (BACK, not (eqb (pending_count k) 0) || not (eqb k.odd 0) || ltb (bytes_fed k) 32 || not (eqb block_length 32))

-- "after 3"
unfoldable pub back_refusals : (record' : List ℕ) → (block_length : ℕ) → List Refusal
back_refusals record' block_length = record_refusal record' ∷ back_refusal (decode record') block_length ∷ []

unfoldable pub back_outcome : (record' block : List ℕ) → Outcome
back_outcome record' block = outcome (back_refusals record' (length block)) (encode (backed (decode record') block)) record'

-- the same by value, over what a record holds
unfoldable pub lent_back_refusals : Kept → (block_length : ℕ) → List Refusal
lent_back_refusals k block_length = kept_refusal k ∷ back_refusal k block_length ∷ []

unfoldable pub lent_back_outcome : Kept → (block : List ℕ) → Lent
lent_back_outcome k block = lent_outcome (lent_back_refusals k (length block)) (backed k block) k
