-- Each call on messages, records and lent working states answers by its list: the numbers stand in this order, 0 is given exactly when no
-- condition holds, and another number exactly when its condition is the first that does.
-- Assumes nothing.
use mathlib.Core.Path.{◌≡◌, refl}
use mathlib.Core.Bool.{true, false}
use mathlib.Core.List.{List, [], ◌∷◌}
use Prim.Native.Nat.{ℕ}
use native.Mathlib.Omega.{arith}
use lib.ListN.{length}
use Rattle.hash_definition.specs.declared.Kept.{Kept}
use Rattle.definition.specs.Buffer.{Every}
use Rattle.definition.specs.Refusal.{WIDTH, OUT, RECORD, LONG, WORDS, ODD, Judged, numbers_of, rising, width_refusal, out_refusal}
use Rattle.definition.proofs.Refusals.{judged}
use Rattle.hash_definition.specs.Calls.{outcome, odd_refusal, long_refusal, record_refusal, buffer_refusal, digest_refusals, start_refusals, feed_refusals, finish_refusals, digest_bits_outcome, start_outcome, feed_bits_outcome, finish_outcome}
use Rattle.hash_definition.specs.Lent.{lent_outcome, kept_refusal, lent_start_refusals, lent_feed_refusals, lent_finish_refusals, lent_start_outcome, lent_feed_bits_outcome, lent_finish_outcome}
use Rattle.hash_definition.specs.Output.{output_by, words_refusal, output_refusals, finish_output_refusals, lent_finish_output_refusals, output_bits_outcome, finish_output_outcome, lent_finish_output_outcome}

-- "Given exactly when": each call's answer is judged by its list, in this order
pub record Orders : Type 0 where
  pub digest : (code : ℕ) (message : List ℕ) (odd : ℕ) (out : List ℕ)
      → Judged (digest_bits_outcome code message odd out).number (digest_refusals code odd (length message) (length out)) (WIDTH ∷ OUT ∷ ODD ∷ LONG ∷ [])
  pub start : (code : ℕ) (buffer : List ℕ)
      → Judged (start_outcome code buffer).number (start_refusals code (length buffer)) (WIDTH ∷ RECORD ∷ [])
  pub feed : (b piece : List ℕ) (odd : ℕ) → Judged (feed_bits_outcome b piece odd).number (feed_refusals b odd (length piece)) (RECORD ∷ ODD ∷ LONG ∷ [])
  pub finish : (b out : List ℕ) → Judged (finish_outcome b out).number (finish_refusals b (length out)) (RECORD ∷ OUT ∷ [])
  pub lent-start : (code : ℕ) (k : Kept) → Judged (lent_start_outcome code k).number (lent_start_refusals code) (WIDTH ∷ [])
  pub lent-feed : (k : Kept) (piece : List ℕ) (odd : ℕ)
      → Judged (lent_feed_bits_outcome k piece odd).number (lent_feed_refusals k odd (length piece)) (RECORD ∷ ODD ∷ LONG ∷ [])
  pub lent-finish : (k : Kept) (out : List ℕ)
      → Judged (lent_finish_outcome k out).number (lent_finish_refusals k (length out)) (RECORD ∷ OUT ∷ [])
  pub output : (code words : ℕ) (message : List ℕ) (odd : ℕ) (out : List ℕ)
      → Judged (output_bits_outcome code words message odd out).answer.number (output_refusals code words odd (length message) (length out))
      (WIDTH ∷ WORDS ∷ OUT ∷ ODD ∷ LONG ∷ [])
  pub finish-output : (b : List ℕ) (words : ℕ) (out : List ℕ)
      → Judged (finish_output_outcome b words out).answer.number (finish_output_refusals b words (length out)) (WORDS ∷ RECORD ∷ OUT ∷ [])
  pub lent_finish_output : (k : Kept) (words : ℕ) (out : List ℕ)
      → Judged (lent_finish_output_outcome k words out).answer.number (lent_finish_output_refusals k words (length out)) (WORDS ∷ RECORD ∷ OUT ∷ [])

pub orders : Orders
unfolding digest_bits_outcome start_outcome feed_bits_outcome finish_outcome lent_start_outcome lent_feed_bits_outcome lent_finish_outcome output_bits_outcome finish_output_outcome lent_finish_output_outcome outcome lent_outcome output_by digest_refusals start_refusals feed_refusals finish_refusals lent_start_refusals lent_feed_refusals lent_finish_refusals output_refusals finish_output_refusals lent_finish_output_refusals words_refusal numbers_of width_refusal out_refusal odd_refusal long_refusal record_refusal buffer_refusal kept_refusal
orders =
    record {
      digest = λ code message odd out. judged _ (omega arith) refl;
      start = λ code buffer. judged _ (omega arith) refl;
      feed = λ b piece odd. judged _ (omega arith) refl;
      finish = λ b out. judged _ (omega arith) refl;
      lent-start = λ code k. judged _ (omega arith) refl;
      lent-feed = λ k piece odd. judged _ (omega arith) refl;
      lent-finish = λ k out. judged _ (omega arith) refl;
      output = λ code words message odd out. judged _ (omega arith) refl;
      finish-output = λ b words out. judged _ (omega arith) refl;
      lent_finish_output = λ k words out. judged _ (omega arith) refl;
    }

-- the numbers rise in start's orders alone: 17 stands before 4, finish judges the record first, and 12 stands before 2 and 3
pub rises : (code n : ℕ) → Every (λ rs. rising (numbers_of rs) ≡ true) (start_refusals code n ∷ lent_start_refusals code ∷ [])
unfolding rising numbers_of start_refusals lent_start_refusals width_refusal buffer_refusal
rises code n = (refl, (refl, tt))

pub falls : (code words odd n m : ℕ) (b : List ℕ) (k : Kept)
    → Every (λ rs. rising (numbers_of rs) ≡ false) (digest_refusals code odd n m ∷ feed_refusals b odd n ∷ lent_feed_refusals k odd n ∷ finish_refusals b n ∷ lent_finish_refusals k n
    ∷ output_refusals code words odd n m ∷ finish_output_refusals b words n ∷ lent_finish_output_refusals k words n ∷ [])
unfolding rising numbers_of digest_refusals feed_refusals finish_refusals lent_feed_refusals lent_finish_refusals output_refusals finish_output_refusals lent_finish_output_refusals words_refusal width_refusal out_refusal odd_refusal long_refusal record_refusal kept_refusal
falls code words odd n m b k = (refl, (refl, (refl, (refl, (refl, (refl, (refl, (refl, tt))))))))
