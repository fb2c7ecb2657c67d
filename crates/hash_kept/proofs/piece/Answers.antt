-- `hash_kept::piece` meets its contract: the first test is 17's condition, and what `long` says is 4's.
-- Assumes nothing.
use Rattle.std.proofs.Common.{◌∙◌, sym, [], ◌∷◌, arith, ltb-false}
use Rattle.definition.specs.Refusal.{ODD, pick, condition_of}
use Rattle.definition.proofs.Conditions.{either_false}
use Rattle.definition.proofs.Refusals.{fails}
use Rattle.refusals.proofs.Judged.{refused, passed}
use Rattle.hash_definition.specs.Calls.{odd_refusal, long_refusal}
use Rattle.hash_kept.proofs.piece.Goals as goal

pub returns-in_err-when : goal.returns-in_err-when
unfolding odd_refusal
returns-in_err-when c = refused _ _ (_ ∷ []) (_ ∷ []) c.from_residual.ensures.1 c.in_err-when.ensures

pub long-requires : goal.long-requires
unfolding condition_of pick
long-requires c = ltb-false 7 _ (either_false _ _ (either_false _ _ (fails (_ ∷ []) (omega arith) (sym c.in_ok-when.ensures) ODD)).0).1

pub returns : goal.returns
unfolding odd_refusal long_refusal
returns c = rw (c.long.ensures, c.count.ensures, c.whole.ensures) at c.when-2.ensures ∙ sym (passed (_ ∷ []) (_ ∷ []) (omega arith) c.in_ok-when.ensures)
