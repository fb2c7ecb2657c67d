-- The record and the piece, judged one after the other, are the refusals of a feed in their order.
-- Assumes nothing.
use Rattle.std.proofs.Common.{◌≡◌, ℕ, [], ◌∷◌, sym, ◌∙◌, arith}
use Rattle.hash_definition.specs.declared.Kept.{Kept}
use Rattle.hash_definition.specs.declared.Held.{Held}
use Rattle.definition.specs.Refusal.{first_of}
use Rattle.refusals.proofs.Judged.{passed}
use Rattle.hash_definition.specs.Record.{held_of, count_of, bytes_fed}
use Rattle.hash_definition.specs.Calls.{odd_refusal, long_refusal}
use Rattle.hash_definition.specs.Lent.{kept_refusal, lent_feed_refusals}

-- past 3 the piece decides
pub by_piece : (k : Kept) (odd n : ℕ) → 0 ≡ first_of (kept_refusal k ∷ []) → {h : Held} {number : ℕ} → h ≡ held_of k
    → number ≡ first_of (odd_refusal h.odd odd n ∷ long_refusal k.code (count_of h.high h.low) odd n ∷ []) → number ≡ first_of (lent_feed_refusals k odd n)
unfolding lent_feed_refusals bytes_fed held_of kept_refusal odd_refusal long_refusal
by_piece k odd n form e piece = (rw e at piece) ∙ sym (passed (_ ∷ []) (_ ∷ _ ∷ []) (omega arith) form)
