-- `hash::output_bits` meets its contract: 1 and 12 are judged before the others.
-- Assumes nothing.
use Rattle.std.proofs.Common.{[], ◌∷◌, arith}
use Rattle.definition.specs.Refusal.{width_refusal}
use Rattle.definition.proofs.Refusals.{then_judged}
use Rattle.hash_definition.specs.Output.{words_refusal, output_refusals, output_bits_outcome}
use Rattle.hash_definition.proofs.Refused.{output-judged}
use Rattle.hash.proofs.output_bits.Goals as goal

pub returns : goal.returns
unfolding output_bits_outcome output_refusals width_refusal words_refusal
returns c =
    output-judged _ _ _ (_ ∷ _ ∷ []) (_ ∷ _ ∷ _ ∷ []) (omega arith)
    (then_judged (_ ∷ []) (_ ∷ []) (omega arith) c.in_turn-before.ensures c.known_code.ensures c.words.ensures)
    c.put_out.ensures
