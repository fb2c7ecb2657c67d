-- `hash_working::finish_output` meets its contract: 12 is judged before the others.
-- Assumes nothing.
use Rattle.std.proofs.Common.{[], ◌∷◌, arith}
use Rattle.refusals.proofs.Judged.{passed}
use Rattle.hash_definition.specs.Output.{words_refusal, lent_finish_output_refusals, lent_finish_output_outcome}
use Rattle.hash_kept.proofs.Answer.{output_on}
use Rattle.hash_working.proofs.finish_output.Goals as goal

pub returns-in_err-words : goal.returns-in_err-words
unfolding lent_finish_output_outcome lent_finish_output_refusals words_refusal
returns-in_err-words c = output_on _ _ (_ ∷ []) (_ ∷ _ ∷ []) c.from_residual.ensures.1 c.in_err-words.ensures _ _ _

pub returns : goal.returns
unfolding lent_finish_output_outcome lent_finish_output_refusals words_refusal
returns c = rw (passed (_ ∷ []) (_ ∷ _ ∷ []) (omega arith) c.in_ok-words.ensures) c.put_out.ensures
