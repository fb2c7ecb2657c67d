-- `hash_back::answer` meets its contract: the judgements in turn are the list, and past them the record is stepped back.
-- Assumes nothing.
use Rattle.std.proofs.Common.{◌≡◌, ℕ, [], ◌∷◌, sym, refl, ap, ◌∙◌, arith}
use Rattle.definition.specs.Refusal.{first_of}
use Rattle.refusals.proofs.Judged.{passed}
use Rattle.hash_definition.specs.declared.Kept.{Kept}
use Rattle.hash_definition.specs.Lent.{kept_refusal}
use Rattle.hash_definition.specs.Said.{taken}
use Rattle.hash_definition.proofs.Refused.{lent-accepted}
use Rattle.hash_kept.proofs.Answer.{lent_on}
use Rattle.back_definition.specs.Back.{back_refusal, lent_back_refusals, lent_back_outcome}
use Rattle.hash_back.proofs.answer.Goals as goal

-- past 3 the step decides
by_step : (k : Kept) (n : ℕ) {number : ℕ} → 0 ≡ first_of (kept_refusal k ∷ []) → number ≡ first_of (back_refusal k n ∷ []) → number ≡ first_of (lent_back_refusals k n)
unfolding lent_back_refusals kept_refusal
by_step k n e f = f ∙ sym (passed (_ ∷ []) (_ ∷ []) (omega arith) e)

pub returns-in_err-form : goal.returns-in_err-form
unfolding lent_back_outcome lent_back_refusals kept_refusal
returns-in_err-form c = lent_on _ _ (_ ∷ []) (_ ∷ []) c.from_residual.ensures.1 c.in_err-form.ensures _ _

pub returns-in_err-refusal : goal.returns-in_err-refusal
unfolding lent_back_outcome lent_back_refusals
returns-in_err-refusal c =
    lent_on _ _ (_ ∷ _ ∷ []) [] c.from_residual-in_err-refusal.ensures.1 (by_step c.args.k _ c.in_ok-form.ensures c.in_err-refusal.ensures) _ _

pub backed-requires : goal.backed-requires
backed-requires c = sym (by_step c.args.k _ c.in_ok-form.ensures c.in_ok-refusal.ensures)

pub returns : goal.returns
unfolding lent_back_outcome
returns c = ap taken c.backed.ensures ∙ lent-accepted _ (by_step c.args.k _ c.in_ok-form.ensures c.in_ok-refusal.ensures) _ _ refl
