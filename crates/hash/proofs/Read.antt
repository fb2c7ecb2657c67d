-- A record is judged, fed and finished as what one reading of it gives: where its frame isn't right that is nothing, which isn't well formed.
-- Assumes nothing.
use mathlib.Core.Path.{◌≡◌, refl}
use mathlib.Core.Bool.{Bool, true, false, not, ◌&&◌}
use mathlib.Core.List.{List, [], ◌∷◌}
use Prim.Native.Nat.{ℕ, ◌*◌}
use lib.Dec.{eqb}
use lib.ListN.{length, take, drop}
use Rattle.definition.specs.Luffa.{bytes_at}
use Rattle.definition.specs.Buffer.{overwrite}
use Rattle.definition.specs.Refusal.{RECORD, WORDS, pick, first_of, known, out_refusal, when_done}
use Rattle.hash_definition.specs.declared.Lent.{Lent}
use Rattle.hash_definition.specs.Record.{record_length, all_zero, bytes_fed, well_formed, well_held, well_kept, decode, fed_bits, output_from, finished}
use Rattle.hash_definition.specs.Calls.{outcome, odd_refusal, long_refusal, record_refusal, feed_refusals, finish_refusals, feed_bits_outcome, finish_outcome}
use Rattle.hash_definition.specs.Lent.{kept_refusal, lent_feed_refusals, lent_finish_refusals, lent_feed_bits_outcome, lent_finish_outcome}
use Rattle.hash_definition.specs.Output.{output_by, words_refusal, finish_output_refusals, lent_finish_output_refusals, finish_output_outcome, lent_finish_output_outcome}
use Rattle.hash_record.specs.Reading.{framed, nothing, reading, written}
use Rattle.hash_record.proofs.Altered.{altered_read}

module _ (b : List ℕ) where
  -- by whether the length is right and the reserved bytes are zero
  finish_by : (out : List ℕ) (t : Bool)
      → lent_finish_outcome (pick t (decode b) nothing) out
      ≡ outcome ((RECORD, not (t && well_kept (decode b))) ∷ out_refusal (bytes_at (decode b).code) (length out) ∷ []) (overwrite (finished (decode b)) out) out
  unfolding pick nothing well_kept well_held known lent_finish_outcome lent_finish_refusals kept_refusal outcome first_of when_done
  finish_by out true = refl
  finish_by out false = refl

  -- and by whether the words are refused
  finish_output_by : (words : ℕ) (out : List ℕ) (v t : Bool)
      → output_by (first_of ((WORDS, v) ∷ kept_refusal (pick t (decode b) nothing) ∷ out_refusal (4 * words) (length out) ∷ [])) words (overwrite (output_from (pick t (decode b) nothing) words) out) out
      ≡ output_by (first_of ((WORDS, v) ∷ (RECORD, not (t && well_kept (decode b))) ∷ out_refusal (4 * words) (length out) ∷ [])) words (overwrite (output_from (decode b) words) out) out
  unfolding pick nothing well_kept well_held known kept_refusal output_by first_of when_done
  finish_output_by words out true t = refl
  finish_output_by words out false true = refl
  finish_output_by words out false false = refl

  pub feed-read : (p : List ℕ) (odd : ℕ) (o : Lent) → o ≡ lent_feed_bits_outcome (reading b) p odd
      → record { number = o.number; buffer = when_done o.number (written o.kept b) b } ≡ feed_bits_outcome b p odd
  unfolding feed_bits_outcome feed_refusals lent_feed_bits_outcome lent_feed_refusals
  feed-read p odd =
      altered_read (λ k. odd_refusal k.odd odd (length p) ∷ long_refusal k.code (bytes_fed k) odd (length p) ∷ []) (λ k. fed_bits k p odd) b

  pub finish-read : (out : List ℕ) → lent_finish_outcome (reading b) out ≡ finish_outcome b out
  unfolding reading framed finish_outcome finish_refusals record_refusal well_formed
  finish-read out = finish_by out (eqb (length b) record_length && all_zero (take 6 (drop 2 b)))

  pub finish_output_read : (words : ℕ) (out : List ℕ) → lent_finish_output_outcome (reading b) words out ≡ finish_output_outcome b words out
  unfolding reading framed lent_finish_output_outcome lent_finish_output_refusals finish_output_outcome finish_output_refusals words_refusal record_refusal well_formed
  finish_output_read words out = finish_output_by words out _ (eqb (length b) record_length && all_zero (take 6 (drop 2 b)))
