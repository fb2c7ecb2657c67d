-- `hash::digest_bits` meets its contract: the digest's words, after 1.
-- Assumes nothing.
use Rattle.std.proofs.Common.{[], ◌∷◌, ap, arith}
use Rattle.definition.specs.Luffa.{bytes_at, luffa_of_bits}
use Rattle.definition.specs.Refusal.{width_refusal}
use Rattle.refusals.proofs.Judged.{handed_on}
use Rattle.hash_definition.specs.Calls.{outcome, digest_refusals, digest_bits_outcome}
use Rattle.hash_definition.specs.Output.{output_by}
use Rattle.hash_definition.specs.Said.{as_digest}
use Rattle.hash_definition.proofs.Refused.{output-judged}
use Rattle.hash.proofs.digest_bits.Goals as goal

pub returns-in_err-put_out : goal.returns-in_err-put_out
unfolding digest_bits_outcome digest_refusals outcome output_by width_refusal bytes_at luffa_of_bits
returns-in_err-put_out c =
    rw (handed_on _ _ c.from_residual.ensures.1)
    (ap as_digest (output-judged _ _ _ (_ ∷ []) (_ ∷ _ ∷ _ ∷ []) (omega arith) c.known_code.ensures (rw c.words.ensures at c.in_err-put_out.ensures)))

pub returns : goal.returns
unfolding digest_bits_outcome digest_refusals outcome output_by width_refusal bytes_at luffa_of_bits
returns c =
    ap as_digest (output-judged _ _ _ (_ ∷ []) (_ ∷ _ ∷ _ ∷ []) (omega arith) c.known_code.ensures (rw c.words.ensures at c.in_ok-put_out.ensures))
