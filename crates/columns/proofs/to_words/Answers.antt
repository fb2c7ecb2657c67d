-- `columns::to_words` meets its contract: past its refusals the words of the dump are written.
-- Assumes nothing.
use mathlib.Core.Path.{refl, sym, ap, ◌∙◌}
use native.Mathlib.Omega.{arith}
use Rattle.definition.proofs.Chain.{count_le}
use Rattle.hash_definition.specs.Said.{done}
use Rattle.hash_definition.proofs.Refused.{refused, accepted}
use Rattle.refusals.proofs.Judged.{handed_on, isnt_done}
use Rattle.columns_definition.specs.Columns.{blocks_at, words_refusals, to_words_outcome}
use Rattle.columns_definition.proofs.Calls.{due}
use Rattle.columns.proofs.Parts.{count, judged}
use Rattle.columns.proofs.to_words.Goals as goal

pub returns-in_err-refusal : goal.returns-in_err-refusal
unfolding to_words_outcome
returns-in_err-refusal c =
    let r = c.from_residual.ensures.1 in
    refused _ (handed_on _ _ r ∙ judged _ c.width.ensures c.count-n.ensures _ _ c.in_err-refusal.ensures) _ _ (isnt_done _ _ r)

pub put_blocks-requires : goal.put_blocks-requires
unfolding words_refusals blocks_at
put_blocks-requires c =
    let a = c.args in
    let d = due a.code _ _ _ _ (sym (judged _ c.width.ensures c.count-n.ensures _ _ c.in_ok-refusal.ensures)) in
    rw (count _ c.width.ensures c.count-n.ensures) (d.1, d.2)

pub returns : goal.returns
unfolding to_words_outcome
returns c =
    ap done (rw (count _ c.width.ensures c.count-n.ensures) at c.put_blocks.ensures) ∙ accepted _ (judged _ c.width.ensures c.count-n.ensures _ _ c.in_ok-refusal.ensures) _ _ refl

pub overflow_mul-n : goal.overflow_mul-n
overflow_mul-n c = rw c.count-n.ensures (omega (arith, count_le c.width.result))
